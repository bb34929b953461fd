use Rattle.std.proofs.Common.{◌≡◌}
use Rattle.rf_depth.specs.Depth.{node_end_below}
use Rattle.rf_depth.proofs.computing.node_end.Given as goal

abbrev pub invariant-loop-scope : goal.invariant-loop-scope
invariant-loop-scope l = l.allowed.hi ≡ node_end_below l.scopes l.scope-index
