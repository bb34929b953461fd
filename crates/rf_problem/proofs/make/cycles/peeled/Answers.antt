use Rattle.std.proofs.Common.{ap, refl, sym, subst, ◌∙◌}
use Rattle.std.specs.FinSet.{contains}
use Rattle.rf_problem.proofs.CycleLemmas.{IsPeeled, IsPeeled-go, IsPeeled-stay}
use Rattle.rf_problem.proofs.make.cycles.peeled.Goals as goal
use Rattle.rf_problem.proofs.make.cycles.peeled.Goals.{then-not-leads_into, else-not-leads_into}

pub loop-number-preserved : goal.loop-number-preserved
loop-number-preserved g c = elim c.if-not-leads_into.branch [
  | then-not-leads_into w ↦ IsPeeled-go (g.E.Edges.edge c.args.edges.now) c.args.size c.args.left c.loop-number.rest _ c.loop-number.number _
      c.loop-number.invariant c.loop-number-test.true (λ leads. let t = c.leads_into.ensures.1 leads in cc)
      (λ x. ap (λ s. contains s x) w.rest-is ∙ w.without_one-rest.ensures x) refl
  | else-not-leads_into w ↦ IsPeeled-stay (g.E.Edges.edge c.args.edges.now) c.args.size c.args.left _ c.loop-number.number _
      (subst (λ s. IsPeeled (g.E.Edges.edge c.args.edges.now) c.args.size c.args.left s c.loop-number.number) (sym w.rest-is) c.loop-number.invariant)
      (rw w.rest-is (c.leads_into.ensures.0 w.if-not-leads_into.false)) refl
]
