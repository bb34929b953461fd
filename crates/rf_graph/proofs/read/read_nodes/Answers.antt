use Rattle.rf_graph.specs.Document.{node_line}
use Rattle.rf_graph.specs.Graph.{FitsNode}
use Rattle.rf_graph.proofs.Grown.{All-pushed, no_longer, one_more_line}
use Rattle.rf_graph.proofs.read.read_nodes.Goals as goal

pub loop-node-preserved : goal.loop-node-preserved
loop-node-preserved c =
    let p = c.args.numbers.now.problem.now in
    let so = c.loop-node.invariant in
    let begun = c.in-Some.ensures.joined in
    let pushed = c.in_ok-push.ensures.items in
    record {
      fits = All-pushed (FitsNode p) _ _ c.in-Some.node so.fits c.in-Some.ensures.fits pushed;
      joined = one_more_line (node_line p) c.args.bytes.now _ _ _ _ c.in-Some.node so.joined begun pushed;
      few = no_longer (node_line p) _ _ _ _ c.in-Some.node _ begun pushed so.few;
    }
