use Rattle.std.proofs.Common.{◌≡◌, ◌∙◌, inl, subst, sym, rules}
use Rattle.rf_source.specs.Source.{IsSource}
use Rattle.rf_run.specs.Refuses.{RefusesProblem}
use Rattle.rf_run.proofs.Problems.{never_refused, refused_for}
use Rattle.rf_run.proofs.Stores.{told_stored}
use Rattle.rf_run.proofs.files.open_problem.Goals as goal

pub returns-in-Ok-read_source-clause-accepted : goal.returns-in-Ok-read_source-clause-accepted
returns-in-Ok-read_source-clause-accepted g c = λ bytes p stores accepted.
    let same = told_stored (g.F.Folder.state c.args.folder.now) c.args.name.now c.in-Ok.bytes.items bytes c.in-Ok.ensures.whole stores in
    let lent : c.as_slice.result.now ≡ bytes = c.as_slice.ensures.value ∙ same in
    c.in-Ok-read_source.ensures.answers.found p (subst (λ b. IsSource b p) (sym lent) accepted.source)

pub returns-in-Ok-read_source-clause-refuses : goal.returns-in-Ok-read_source-clause-refuses
returns-in-Ok-read_source-clause-refuses g c = λ bytes r stores refuses.
    let same = told_stored (g.F.Folder.state c.args.folder.now) c.args.name.now c.in-Ok.bytes.items bytes c.in-Ok.ensures.whole stores in
    let lent : c.as_slice.result.now ≡ bytes = c.as_slice.ensures.value ∙ same in
    never_refused c.as_slice.result.now c.in-Ok-read_source.problem (search rules) c.in-Ok-read_source.ensures.answers r
    (subst (λ b. RefusesProblem b r) (sym lent) refuses)

pub returns-in-Err-Fault-clause-accepted : goal.returns-in-Err-Fault-clause-accepted
returns-in-Err-Fault-clause-accepted g c = λ bytes p stores accepted.
    let same = told_stored (g.F.Folder.state c.args.folder.now) c.args.name.now c.in-Ok.bytes.items bytes c.in-Ok.ensures.whole stores in
    let lent : c.as_slice.result.now ≡ bytes = c.as_slice.ensures.value ∙ same in
    let never = c.in-Err-Fault.ensures.answers.found p (subst (λ b. IsSource b p) (sym lent) accepted.source) in
    cc

pub returns-in-Err-Fault-clause-refuses : goal.returns-in-Err-Fault-clause-refuses
returns-in-Err-Fault-clause-refuses g c = λ bytes r stores refuses.
    let same = told_stored (g.F.Folder.state c.args.folder.now) c.args.name.now c.in-Ok.bytes.items bytes c.in-Ok.ensures.whole stores in
    let lent : c.as_slice.result.now ≡ bytes = c.as_slice.ensures.value ∙ same in
    inl (refused_for c.as_slice.result.now c.in-Err-Fault.fault (search rules) (rw c.in-Err-Fault.field-0-is at c.in-Err-Fault.ensures.answers) r
    (subst (λ b. RefusesProblem b r) (sym lent) refuses))
