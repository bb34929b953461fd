use Rattle.std.proofs.Common.{None, Some, ap, inl, inr, not, sym, ◌∙◌}
use Rattle.rf_graph.specs.declared.verdict.Violation.TheVariants.{Opposite}
use Rattle.rf_satisfy.proofs.Firsts.{IsFirstFailing-ended, IsFirstFailing-more, first_edge_of-least}
use Rattle.rf_satisfy.proofs.kinds.mirrors.first_opposite.Goals as goal
use Rattle.rf_satisfy.proofs.kinds.mirrors.first_opposite.Goals.{then-not-has_mirror, else-not-has_mirror}
use Rattle.rf_satisfy.proofs.kinds.mirrors.first_opposite.Invariants.{lacks_mirror}

pub loop-edge-preserved : goal.loop-edge-preserved
loop-edge-preserved c =
    IsFirstFailing-more (λ e. lacks_mirror c.args.problem.now c.args.index.now.graph.now e.reference e.from e.to) c.as_slice-edge-items.result.now c.loop-edge.edge-index
    record { reference = 0; from = 0; to = 0 } c.loop-edge.least c.if-not-has_mirror.least c.loop-edge-test.true c.loop-edge.invariant
    (elim c.if-not-has_mirror.branch [
      | then-not-has_mirror w ↦ inl (sym (ap not w.if-not-has_mirror.ensures), w.least-is ∙ w.earlier-least.ensures)
      | else-not-has_mirror w ↦ inr (sym (ap not w.if-not-has_mirror.ensures), w.least-is)
    ])

pub returns-in-Some : goal.returns-in-Some
returns-in-Some c =
    first_edge_of-least c.args.problem.now c.args.index.now.graph.now c.requires (lacks_mirror c.args.problem.now c.args.index.now.graph.now) Opposite (Some c.in-Some.edge)
    (IsFirstFailing-ended (λ e. lacks_mirror c.args.problem.now c.args.index.now.graph.now e.reference e.from e.to) c.as_slice-edge-items.result.now c.args.index.now.graph.now.edges
    c.loop-edge.edge-index c.loop-edge.least (Some c.in-Some.edge) c.loop-edge-test.false c.as_slice-edge-items.ensures c.in-Some.is c.loop-edge.invariant)

pub returns-in-None : goal.returns-in-None
returns-in-None c =
    first_edge_of-least c.args.problem.now c.args.index.now.graph.now c.requires (lacks_mirror c.args.problem.now c.args.index.now.graph.now) Opposite None
    (IsFirstFailing-ended (λ e. lacks_mirror c.args.problem.now c.args.index.now.graph.now e.reference e.from e.to) c.as_slice-edge-items.result.now c.args.index.now.graph.now.edges
    c.loop-edge.edge-index c.loop-edge.least None c.loop-edge-test.false c.as_slice-edge-items.ensures c.in-None.is c.loop-edge.invariant)
