use Rattle.std.proofs.Common.{arith}
use Rattle.rf_satisfy.proofs.Keys.{AreKeysOf-more}
use Rattle.rf_satisfy.proofs.index.edges.keys_of.Goals as goal

pub loop-edge-preserved : goal.loop-edge-preserved
loop-edge-preserved c = AreKeysOf-more c.loop-edge.keys c.insert.new.self c.args.edges.now c.loop-edge.edge-index record { reference = 0; from = 0; to = 0 } (omega arith) c.in_ok-insert.ensures.updates.0 c.loop-edge.invariant
