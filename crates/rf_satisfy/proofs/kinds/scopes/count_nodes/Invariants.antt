use Rattle.std.proofs.Common.{◌≡◌}
use Rattle.rf_finite.specs.Range.{count_below}
use Rattle.rf_graph.specs.Violations.{is_counted}
use Rattle.rf_problem.specs.Parts.{scope_at}
use Rattle.rf_satisfy.proofs.kinds.scopes.count_nodes.Given as goal

abbrev pub invariant-loop-node : goal.invariant-loop-node
invariant-loop-node l = l.count ≡ count_below l.node (is_counted l.problem l.graph (scope_at l.problem.scopes l.scope))
