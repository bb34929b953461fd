use Rattle.std.proofs.Common.{◌≡◌, ◌*◌, ◌+◌, ℕ, Option, Some, ap, sym, subst, ◌∙◌, length}
use Rattle.rf_problem.specs.declared.problem.Problem.{Problem}
use Rattle.rf_problem.specs.Parts.{reference_at}
use Rattle.rf_pending.proofs.TouchLemmas.{both-touched}
use Rattle.rf_pending.proofs.touching.touch_fact.Goals as goal

pub returns-in-Some : goal.returns-in-Some
returns-in-Some g c =
    let p = g.F.Facts.problem c.args.view.now in
    let n = length (g.F.Facts.state c.args.view.now).objects in
    both-touched (length p.references) n c.args.r c.args.a c.in-Some.q c.args.b (reference_at p.references c.args.r).opposite
    c.args.marks.now c.touch.new.self c.touch-in-Some.new.self c.row_of.result c.row_of-in-Some.result
    (subst (λ (x : Problem). (reference_at x.references c.args.r).opposite ≡ Some c.in-Some.q) c.problem.ensures
    (ap (λ x. x.opposite) (sym c.reference.ensures) ∙ c.in-Some.is))
    (c.row_of.ensures ∙ ap (λ (m : ℕ). c.args.r * m + c.args.a) c.objects-objects.ensures)
    (c.row_of-in-Some.ensures ∙ ap (λ (m : ℕ). c.in-Some.q * m + c.args.b) c.objects-objects.ensures)
    c.touch.ensures c.touch-in-Some.ensures
