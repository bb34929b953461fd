use Rattle.std.proofs.Common.{◌++◌, codes, map}
use Rattle.rf_text.specs.Line.{joined_lines}
use Rattle.rf_graph.specs.Document.{edge_line, node_line}
use Rattle.rf_graph.proofs.Documents.{printed_all, printed_more, printed_whole}
use Rattle.rf_graph.proofs.print.print_graph.Goals as goal

pub loop-node-preserved : goal.loop-node-preserved
loop-node-preserved c =
    printed_more (node_line c.args.problem.now) (codes "graph 1\n") c.deref-node-items.result.now c.loop-node.node-index _ c.loop-node.text _ c.loop-node-test.true
    c.loop-node.invariant c.in_ok-push_node.ensures

pub loop-edge-preserved : goal.loop-edge-preserved
loop-edge-preserved c =
    printed_more (edge_line c.args.problem.now) (codes "graph 1\n" ++ joined_lines (map (node_line c.args.problem.now) c.args.graph.now.nodes)) c.deref-edge-items.result.now
    c.loop-edge.edge-index _ c.loop-edge.text _ c.loop-edge-test.true c.loop-edge.invariant c.in_ok-push_edge.ensures

pub returns : goal.returns
returns c =
    let p = c.args.problem.now in
    let prefix = codes "graph 1\n" ++ joined_lines (map (node_line p) c.args.graph.now.nodes) in
    let edges = printed_whole (edge_line p) prefix c.deref-edge-items.result.now c.args.graph.now.edges c.loop-edge.edge-index c.loop-edge.text c.deref-edge-items.ensures
    c.loop-edge-test.false c.loop-edge.invariant in
    printed_all p c.args.graph.now c.loop-edge.text _ edges c.in_ok-push_str.ensures.ok
