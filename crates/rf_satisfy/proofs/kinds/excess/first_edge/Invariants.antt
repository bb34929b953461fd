use Rattle.std.proofs.Common.{take, ◌&&◌}
use Rattle.std.specs.List.{list_any}
use Rattle.std.specs.Prelude.{slice_index}
use Rattle.rf_problem.specs.declared.symbol.Symbol.TheVariants.{Reference}
use Rattle.rf_graph.specs.Graph.{size_of}
use Rattle.rf_satisfy.specs.Edges.{is_edge}
use Rattle.rf_satisfy.specs.Suspects.{is_denied_at}
use Rattle.rf_satisfy.specs.Tuples.{IsFirst}
use Rattle.rf_satisfy.proofs.kinds.excess.first_edge.Given as goal

abbrev pub invariant-loop-edge : goal.invariant-loop-edge
invariant-loop-edge l = IsFirst (size_of l.index.graph) 2 (λ t.
    list_any (is_edge l.reference (slice_index t 0) (slice_index t 1)) (take l.edge-index l.edge-items)
    && is_denied_at l.index.problem l.index.graph (Reference l.reference) t) l.first
