use Rattle.std.proofs.Common.{◌≡◌, ◌≢◌, ◌++◌, ◌+◌, ◌≤◌, All, length, map}
use Rattle.std.specs.Prelude.{AllPairs}
use Rattle.rf_text.specs.Line.{joined_lines}
use Rattle.rf_graph.specs.Document.{edge_line}
use Rattle.rf_graph.specs.Graph.{FitsEdge}
use Rattle.rf_graph.proofs.Seen.{Marks}
use Rattle.rf_graph.proofs.read.read_edges.Given as goal

abbrev pub invariant-loop-edge : goal.invariant-loop-edge
invariant-loop-edge l = record {
  fits : All (FitsEdge l.numbers.problem.now l.nodes) l.edges.items;
  distinct : AllPairs (λ e f. e ≢ f) l.edges.items;
  marks : Marks l.edges.items l.seen;
  joined : l.bytes ≡ joined_lines (map (edge_line l.numbers.problem.now) l.edges.items) ++ l.rest;
  few : length l.edges.items + length l.rest ≤ length l.bytes;
}

abbrev pub decreases-loop-edge : goal.decreases-loop-edge
decreases-loop-edge l = length l.rest
