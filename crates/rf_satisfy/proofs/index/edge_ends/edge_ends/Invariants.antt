use Rattle.std.proofs.Common.{take}
use Rattle.rf_satisfy.specs.EdgeEnds.{AreFrom, AreInto}
use Rattle.rf_satisfy.proofs.index.edge_ends.edge_ends.Given as goal

abbrev pub invariant-loop-edge : goal.invariant-loop-edge
invariant-loop-edge l = record {
  from : AreFrom l.from (take l.edge-index l.edges);
  into : AreInto l.into (take l.edge-index l.edges);
}
