use Rattle.std.proofs.Common.{◌≡◌, ◌++◌, codes, map, take}
use Rattle.rf_text.specs.Line.{joined_lines}
use Rattle.rf_graph.specs.Document.{edge_line, node_line}
use Rattle.rf_graph.proofs.print.print_graph.Given as goal

abbrev pub invariant-loop-node : goal.invariant-loop-node
invariant-loop-node l = l.text ≡ codes "graph 1\n" ++ joined_lines (map (node_line l.problem) (take l.node-index l.node-items))

abbrev pub invariant-loop-edge : goal.invariant-loop-edge
invariant-loop-edge l =
    l.text ≡ (codes "graph 1\n" ++ joined_lines (map (node_line l.problem) l.graph.nodes)) ++ joined_lines (map (edge_line l.problem) (take l.edge-index l.edge-items))
