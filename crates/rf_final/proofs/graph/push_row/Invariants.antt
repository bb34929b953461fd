use Rattle.std.proofs.Common.{◌≡◌, ◌++◌}
use Rattle.rf_final.specs.GraphOf.{row_edges}
use Rattle.rf_final.proofs.graph.push_row.Given as goal

abbrev pub invariant-loop-y : goal.invariant-loop-y
invariant-loop-y g l = l.edges.items ≡ l.initial.edges.items ++ row_edges (g.F.Facts.problem l.view) (g.F.Facts.state l.view) l.r l.x l.y
