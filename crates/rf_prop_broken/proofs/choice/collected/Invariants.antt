use Rattle.std.proofs.Common.{◌≡◌, ◌≤◌, ◌+◌, ◌++◌, drop, length, slice_index}
use Rattle.rf_prop_broken.specs.Looking.{collected}
use Rattle.rf_prop_broken.proofs.choice.collected.Given as goal

abbrev pub invariant-loop-v : goal.invariant-loop-v
invariant-loop-v l = record {
  few : length l.objects ≤ l.v;
  same : l.objects ++ collected (drop l.v l.variables) (λ u. slice_index l.places (l.v + u)) ≡ collected l.variables (slice_index l.places);
}
