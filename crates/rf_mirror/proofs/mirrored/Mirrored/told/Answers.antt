use Rattle.std.proofs.Common.{◌≡◌, ◌∙◌, ap, ap₂, sym, Some, None}
use Rattle.rf_values.specs.Truth.{merge}
use Rattle.rf_problem.specs.Parts.{reference_at}
use Rattle.rf_state.specs.State.{told, told_back}
use Rattle.rf_mirror.specs.Meaning.{current}
use Rattle.rf_mirror.proofs.ToldLemmas.{merge-unknown, opposite-inside}
use Rattle.rf_mirror.proofs.mirrored.Mirrored.told.Goals as goal

pub told_at-requires-in-Some : goal.told_at-requires-in-Some
told_at-requires-in-Some c =
    let q = c.problem-problem.result.now in
    opposite-inside q c.args.r c.in-Some.q (sym (ap (λ x. x.opposite) c.reference.ensures) ∙ c.in-Some.is)

pub returns-in_ok-told_at-in-Some : goal.returns-in_ok-told_at-in-Some
returns-in_ok-told_at-in-Some c =
    let m = c.args.self.now in
    let p = m.inner.problem.now in
    let s = current m in
    let e = c.problem-problem.ensures in
    let is : (reference_at p.references c.args.r).opposite ≡ Some c.in-Some.q = rw (c.reference.ensures, e) at c.in-Some.is in
    let onward = rw e at c.in_ok-onward.ensures in
    let back = rw e at c.in_ok-told_at-in-Some.ensures in
    c.merge.ensures
    ∙ ap₂ merge (onward s m.mirror.known c.requires.from c.requires.to) (back s m.mirror.known c.requires.to c.requires.from)
    ∙ ap (λ o. merge (told p s c.args.r c.args.a c.args.b) (told_back p s o c.args.a c.args.b)) (sym is)

pub returns-in-None : goal.returns-in-None
returns-in-None c =
    let m = c.args.self.now in
    let p = m.inner.problem.now in
    let s = current m in
    let e = c.problem-problem.ensures in
    let is : (reference_at p.references c.args.r).opposite ≡ None = rw (c.reference.ensures, e) at c.in-None.is in
    let onward = rw e at c.in_ok-onward.ensures in
    onward s m.mirror.known c.requires.from c.requires.to
    ∙ sym (merge-unknown (told p s c.args.r c.args.a c.args.b))
    ∙ ap (λ o. merge (told p s c.args.r c.args.a c.args.b) (told_back p s o c.args.a c.args.b)) (sym is)
