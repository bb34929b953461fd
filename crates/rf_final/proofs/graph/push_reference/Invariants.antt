use Rattle.std.proofs.Common.{◌≡◌, ◌++◌, length}
use Rattle.rf_finite.specs.Passing.{joined}
use Rattle.rf_final.specs.GraphOf.{row_edges}
use Rattle.rf_final.proofs.graph.push_reference.Given as goal

abbrev pub invariant-loop-x : goal.invariant-loop-x
invariant-loop-x g l =
    l.edges.items ≡ l.initial.edges.items ++ joined l.x (λ x. row_edges (g.F.Facts.problem l.view) (g.F.Facts.state l.view) l.r x
    (length l.objects))
