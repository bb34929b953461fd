use Rattle.std.proofs.Common.{◌≡◌, ◌∙◌, ◌&&◌, true, ap, sym, length, arith, subst}
use Rattle.std.proofs.lemmas.Bool.{and_from}
use Rattle.rf_finite.proofs.Range.{some_below-from_one}
use Rattle.rf_problem.specs.Contained.{is_containing}
use Rattle.rf_problem.specs.Parts.{is_contains}
use Rattle.rf_problem.specs.declared.problem.Problem.{Problem}
use Rattle.rf_state.specs.State.{fact}
use Rattle.rf_pending.specs.Touching.{stands}
use Rattle.rf_prop_contain.proofs.concerns.does_hold.Goals as goal

pub returns-then-counts : goal.returns-then-counts
returns-then-counts g c =
    let p = g.F.Facts.problem c.args.view.now in
    let s = g.F.Facts.state c.args.view.now in
    let q = c.loop-reference.reference in
    let many = subst (λ (x : Problem). c.len-reference-end.result ≡ length x.references) c.problem.ensures c.len-reference-end.ensures in
    let contains : is_containing p q ≡ true = subst (λ (x : Problem). is_containing x q ≡ true) c.problem-in-loop-reference.ensures
    (sym (c.is_contains-contains.ensures ∙ ap (λ x. is_contains x.kind) c.reference.ensures) ∙ c.if-contains.true) in
    sym (some_below-from_one (length p.references) (λ k. is_containing p k && stands c.args.standing (fact p s k c.args.x c.args.y)) q
    (omega (arith, many))
    (and_from (is_containing p q) (stands c.args.standing (fact p s q c.args.x c.args.y)) contains
    (sym (c.counts.ensures ∙ ap (stands c.args.standing) c.fact.ensures) ∙ c.if-counts.true)))
