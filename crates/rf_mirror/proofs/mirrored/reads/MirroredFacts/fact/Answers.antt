use Rattle.std.proofs.Common.{◌∙◌, ap, sym}
use Rattle.rf_values.specs.Truth.{merge}
use Rattle.rf_problem.specs.Parts.{reference_at}
use Rattle.rf_state.specs.State.{by_classes, told, told_back}
use Rattle.rf_state.proofs.FactLemmas.{assoc}
use Rattle.rf_mirror.specs.Meaning.{current}
use Rattle.rf_mirror.proofs.mirrored.reads.MirroredFacts.fact.Goals as goal

pub returns-in-Some : goal.returns-in-Some
returns-in-Some c =
    let m = c.args.self.now in
    let p = m.inner.problem.now in
    let s = current m in
    let r = c.args.r in
    let a = c.args.a in
    let b = c.args.b in
    c.with_classes.ensures
    ∙ ap (λ t. merge t (by_classes p s r a b)) c.in-Some.ensures
    ∙ sym (assoc (told p s r a b) (told_back p s (reference_at p.references r).opposite a b) (by_classes p s r a b))
