use Rattle.std.proofs.Common.{take}
use Rattle.rf_satisfy.specs.Edges.{CountsFrom}
use Rattle.rf_satisfy.proofs.kinds.degrees.count_from.Given as goal

abbrev pub invariant-loop-edge : goal.invariant-loop-edge
invariant-loop-edge l = CountsFrom l.reference (take l.edge-index l.edge-items) l.degrees
