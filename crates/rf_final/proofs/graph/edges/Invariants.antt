use Rattle.std.proofs.Common.{◌≡◌, length}
use Rattle.rf_finite.specs.Passing.{joined}
use Rattle.rf_final.specs.GraphOf.{reference_edges}
use Rattle.rf_final.proofs.graph.edges.Given as goal

abbrev pub invariant-loop-r : goal.invariant-loop-r
invariant-loop-r g l =
    l.edges.items ≡ joined l.r (λ r. reference_edges (g.F.Facts.problem l.view) (g.F.Facts.state l.view) r (length l.objects))
