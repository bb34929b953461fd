use Rattle.std.proofs.Common.{arith}
use Rattle.rf_graph.specs.declared.graph.Edge.{Edge}
use Rattle.rf_satisfy.proofs.EdgeEndLemmas.{AreFrom-more, AreInto-more}
use Rattle.rf_satisfy.proofs.index.edge_ends.edge_ends.Goals as goal

pub loop-edge-preserved : goal.loop-edge-preserved
loop-edge-preserved c =
    let no_edge : Edge = record { reference = 0; from = 0; to = 0 } in
    record {
      from = AreFrom-more c.loop-edge.from c.put.new.lists c.args.edges.now c.loop-edge.edge-index no_edge (omega arith) c.in_ok-put.ensures c.loop-edge.invariant.from;
      into = AreInto-more c.loop-edge.into c.put-in-loop-edge.new.lists c.args.edges.now c.loop-edge.edge-index no_edge (omega arith) c.in_ok-put-2.ensures c.loop-edge.invariant.into;
    }
