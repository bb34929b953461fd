use Rattle.std.proofs.Common.{◌≡◌, ℕ, ◌<◌, length, get_or, vec_len}
use Rattle.rf_finite.specs.Range.{count_below}
use Rattle.rf_satisfy.specs.ContainerOf.{contains_by}
use Rattle.rf_satisfy.proofs.kinds.peeling.content_counts.Given as goal

abbrev pub invariant-loop-z : goal.invariant-loop-z
invariant-loop-z l = record {
  len : vec_len l.contents ≡ length l.containers;
  counts : (x : ℕ) → x < length l.containers → get_or l.contents.items x 0 ≡ count_below l.z (contains_by l.containers x);
}
