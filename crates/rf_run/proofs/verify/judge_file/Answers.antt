use Rattle.std.proofs.Common.{◌≡◌, ◌∙◌, ◌<◌, ◌≤◌, ◌+◌, Ok, None, take, arith, ap, refl, subst, rules}
use Rattle.rf_io.specs.Folder.{IsMissing}
use Rattle.rf_run.specs.Stages.{IsJudgedTo, IsLongTree}
use Rattle.rf_run.specs.declared.refusal.File.TheVariants.{Tree}
use Rattle.rf_run.specs.declared.refusal.Refusal.TheVariants.{TooLong}
use Rattle.rf_run.proofs.TreeFacts.{tree_laws}
use Rattle.rf_run.proofs.Trees.{IsPart, judged_end, judged_long, judged_more, judged_rejected}
use Rattle.rf_run.proofs.verify.judge_file.Goals as goal

pub loop-count-preserved : goal.loop-count-preserved
loop-count-preserved g c =
    let here = c.loop-count.invariant.same c.args.name.now in
    let there : IsMissing (g.F.Folder.state c.args.folder.now) c.args.name.now → ⊥ = λ missing. (let e = c.in-Ok.ensures.missing (here ∙ missing) in cc) in
    let part : IsPart (g.F.Folder.state c.args.folder.now) c.args.name.now c.loop-count.at c.in-Ok.count c.within_limit-taken.result c.read_at.new.buf (take c.within_limit-taken.result c.read_at.new.buf) = record {
      reads = λ file stored. c.in-Ok.ensures.bytes file (here ∙ stored);
      there = there;
      taken = refl;
      within = c.within_limit-taken.ensures.few;
      room = c.in-Ok.ensures.bound;
      short = c.within_limit-taken.ensures.within;
    } in
    let none : c.in_ok-line.field-0 ≡ None = search rules in
    let more : IsJudgedTo (g.F.Folder.state c.args.folder.now) c.args.name.now c.args.problem.now c.feed.new.self (c.loop-count.at + c.within_limit-taken.result) =
    judged_more _ c.args.name.now c.args.problem.now c.loop-count.verifier c.feed.new.self c.loop-count.at c.in-Ok.count c.within_limit-taken.result c.read_at.new.buf _
    c.loop-count.invariant.judged part (c.in_ok-line.ensures.going (ap Ok none)) (c.in_ok-line.ensures.fed (ap Ok none)) in
    let all : c.loop-count.at + c.within_limit-taken.result ≡ c.loop-count.at + c.in-Ok.count = omega (arith, c.within_limit-taken.ensures.few, c.if-taken-count.false) in
    record {
      judged = subst (λ k. IsJudgedTo (g.F.Folder.state c.args.folder.now) c.args.name.now c.args.problem.now c.feed.new.self k) all more;
      same = λ name. c.in-Ok.ensures.same name ∙ c.loop-count.invariant.same name;
      later = λ name. omega (arith, c.loop-count.invariant.later name, c.in-Ok.ensures.later name);
    }

pub returns-then-count-eq0-clause-judged : goal.returns-then-count-eq0-clause-judged
returns-then-count-eq0-clause-judged g c =
    let here = c.loop-count.invariant.same c.args.name.now in
    let there : IsMissing (g.F.Folder.state c.args.folder.now) c.args.name.now → ⊥ = λ missing. (let e = c.in-Ok.ensures.missing (here ∙ missing) in cc) in
    judged_end _ c.args.name.now c.args.problem.now c.loop-count.verifier c.loop-count.at c.in-Ok.count c.read_at.new.buf c.in_ok-verdict.verdict
    c.loop-count.invariant.judged (λ file stored. c.in-Ok.ensures.bytes file (here ∙ stored)) there c.if-count-eq0.true c.in_ok-verdict.ensures

pub returns-in-Some-clause-judged : goal.returns-in-Some-clause-judged
returns-in-Some-clause-judged g c =
    let here = c.loop-count.invariant.same c.args.name.now in
    let there : IsMissing (g.F.Folder.state c.args.folder.now) c.args.name.now → ⊥ = λ missing. (let e = c.in-Ok.ensures.missing (here ∙ missing) in cc) in
    let part : IsPart (g.F.Folder.state c.args.folder.now) c.args.name.now c.loop-count.at c.in-Ok.count c.within_limit-taken.result c.read_at.new.buf (take c.within_limit-taken.result c.read_at.new.buf) = record {
      reads = λ file stored. c.in-Ok.ensures.bytes file (here ∙ stored);
      there = there;
      taken = refl;
      within = c.within_limit-taken.ensures.few;
      room = c.in-Ok.ensures.bound;
      short = c.within_limit-taken.ensures.within;
    } in
    judged_rejected _ c.args.name.now c.args.problem.now c.loop-count.verifier c.loop-count.at c.in-Ok.count c.within_limit-taken.result c.read_at.new.buf _ c.in-Some.line
    (tree_laws c.args.problem.now) c.loop-count.invariant.judged part (c.in_ok-line.ensures.rejected c.in-Some.line (ap Ok c.in-Some.is))

pub returns-then-taken-count-clause-refused : goal.returns-then-taken-count-clause-refused
returns-then-taken-count-clause-refused g c = λ r is.
    let here = c.loop-count.invariant.same c.args.name.now in
    let there : IsMissing (g.F.Folder.state c.args.folder.now) c.args.name.now → ⊥ = λ missing. (let e = c.in-Ok.ensures.missing (here ∙ missing) in cc) in
    let part : IsPart (g.F.Folder.state c.args.folder.now) c.args.name.now c.loop-count.at c.in-Ok.count c.within_limit-taken.result c.read_at.new.buf (take c.within_limit-taken.result c.read_at.new.buf) = record {
      reads = λ file stored. c.in-Ok.ensures.bytes file (here ∙ stored);
      there = there;
      taken = refl;
      within = c.within_limit-taken.ensures.few;
      room = c.in-Ok.ensures.bound;
      short = c.within_limit-taken.ensures.within;
    } in
    let none : c.in_ok-line.field-0 ≡ None = search rules in
    let more : IsJudgedTo (g.F.Folder.state c.args.folder.now) c.args.name.now c.args.problem.now c.feed.new.self (c.loop-count.at + c.within_limit-taken.result) =
    judged_more _ c.args.name.now c.args.problem.now c.loop-count.verifier c.feed.new.self c.loop-count.at c.in-Ok.count c.within_limit-taken.result c.read_at.new.buf _
    c.loop-count.invariant.judged part (c.in_ok-line.ensures.going (ap Ok none)) (c.in_ok-line.ensures.fed (ap Ok none)) in
    let long : IsLongTree (g.F.Folder.state c.args.folder.now) c.args.name.now c.args.problem.now (TooLong Tree) =
    judged_long _ c.args.name.now c.args.problem.now c.feed.new.self c.loop-count.at c.in-Ok.count c.within_limit-taken.result c.read_at.new.buf _
    (tree_laws c.args.problem.now) more part c.if-taken-count.true (c.within_limit-taken.ensures.all c.if-taken-count.true) in
    let same : TooLong Tree ≡ r = cc in
    subst (λ x. IsLongTree (g.F.Folder.state c.args.folder.now) c.args.name.now c.args.problem.now x) same long
