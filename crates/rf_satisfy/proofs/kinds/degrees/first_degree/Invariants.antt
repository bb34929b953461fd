use Rattle.std.proofs.Common.{◌≡◌, None, length}
use Rattle.rf_finite.specs.Range.{first_below}
use Rattle.rf_graph.specs.Graph.{size_of}
use Rattle.rf_satisfy.specs.Edges.{first_degree_of}
use Rattle.rf_satisfy.proofs.kinds.degrees.first_degree.Given as goal

abbrev pub invariant-loop-reference : goal.invariant-loop-reference
invariant-loop-reference l =
    (length l.degrees.items ≡ size_of l.graph) × (first_below l.reference (first_degree_of l.problem l.graph) ≡ None)
