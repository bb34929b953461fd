use Rattle.std.proofs.Common.{◌≡◌, ◌++◌, ◌+◌, ◌≤◌, All, length, map}
use Rattle.rf_text.specs.Line.{joined_lines}
use Rattle.rf_graph.specs.Document.{node_line}
use Rattle.rf_graph.specs.Graph.{FitsNode}
use Rattle.rf_graph.proofs.read.read_nodes.Given as goal

abbrev pub invariant-loop-node : goal.invariant-loop-node
invariant-loop-node l = record {
  fits : All (FitsNode l.numbers.problem.now) l.nodes.items;
  joined : l.bytes ≡ joined_lines (map (node_line l.numbers.problem.now) l.nodes.items) ++ l.rest;
  few : length l.nodes.items + length l.rest ≤ length l.bytes;
}

abbrev pub decreases-loop-node : goal.decreases-loop-node
decreases-loop-node l = length l.rest
