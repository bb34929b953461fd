use Rattle.std.proofs.Common.{◌≡◌, ℕ, ◌<◌, length, get_or, take, vec_len}
use Rattle.std.specs.Prelude.{count_by}
use Rattle.rf_satisfy.specs.Containers.{contains_node}
use Rattle.rf_satisfy.proofs.kinds.containers.container_counts.Given as goal

abbrev pub invariant-loop-edge : goal.invariant-loop-edge
invariant-loop-edge l = record {
  len : vec_len l.counts ≡ length l.graph.nodes;
  counts : (z : ℕ) → z < length l.graph.nodes → get_or l.counts.items z 0 ≡ count_by (contains_node l.problem z) (take l.edge-index l.edge-items);
}
