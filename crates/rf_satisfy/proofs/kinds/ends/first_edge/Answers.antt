use Rattle.std.proofs.Common.{None, Some, ap, inl, inr, not, sym, ◌∙◌}
use Rattle.rf_graph.specs.declared.verdict.Violation.TheVariants.{Edge}
use Rattle.rf_satisfy.proofs.Firsts.{IsFirstFailing-ended, IsFirstFailing-more, first_edge_of-least}
use Rattle.rf_satisfy.proofs.kinds.ends.first_edge.Goals as goal
use Rattle.rf_satisfy.proofs.kinds.ends.first_edge.Goals.{then-not-fits_ends, else-not-fits_ends}
use Rattle.rf_satisfy.proofs.kinds.ends.first_edge.Invariants.{is_misplaced}

pub loop-edge-preserved : goal.loop-edge-preserved
loop-edge-preserved c =
    IsFirstFailing-more (λ e. is_misplaced c.args.problem.now c.args.graph.now e.reference e.from e.to) c.as_slice-edge-items.result.now c.loop-edge.edge-index
    record { reference = 0; from = 0; to = 0 } c.loop-edge.least c.if-not-fits_ends.least c.loop-edge-test.true c.loop-edge.invariant
    (elim c.if-not-fits_ends.branch [
      | then-not-fits_ends w ↦ inl (sym (ap not w.if-not-fits_ends.ensures), w.least-is ∙ w.earlier-least.ensures)
      | else-not-fits_ends w ↦ inr (sym (ap not w.if-not-fits_ends.ensures), w.least-is)
    ])

pub returns-in-Some : goal.returns-in-Some
returns-in-Some c =
    first_edge_of-least c.args.problem.now c.args.graph.now c.requires (is_misplaced c.args.problem.now c.args.graph.now) Edge (Some c.in-Some.edge)
    (IsFirstFailing-ended (λ e. is_misplaced c.args.problem.now c.args.graph.now e.reference e.from e.to) c.as_slice-edge-items.result.now c.args.graph.now.edges
    c.loop-edge.edge-index c.loop-edge.least (Some c.in-Some.edge) c.loop-edge-test.false c.as_slice-edge-items.ensures c.in-Some.is c.loop-edge.invariant)

pub returns-in-None : goal.returns-in-None
returns-in-None c =
    first_edge_of-least c.args.problem.now c.args.graph.now c.requires (is_misplaced c.args.problem.now c.args.graph.now) Edge None
    (IsFirstFailing-ended (λ e. is_misplaced c.args.problem.now c.args.graph.now e.reference e.from e.to) c.as_slice-edge-items.result.now c.args.graph.now.edges
    c.loop-edge.edge-index c.loop-edge.least None c.loop-edge-test.false c.as_slice-edge-items.ensures c.in-None.is c.loop-edge.invariant)
