use Rattle.std.proofs.Common.{take}
use Rattle.rf_satisfy.specs.Edges.{AreKeysOf}
use Rattle.rf_satisfy.proofs.index.edges.keys_of.Given as goal

abbrev pub invariant-loop-edge : goal.invariant-loop-edge
invariant-loop-edge l = AreKeysOf l.keys (take l.edge-index l.edges)
