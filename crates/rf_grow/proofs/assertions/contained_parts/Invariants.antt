use Rattle.std.proofs.Common.{◌≡◌, map}
use Rattle.std.specs.List.{range_with_len}
use Rattle.rf_grow.specs.Grown.{contains_part}
use Rattle.rf_grow.proofs.assertions.contained_parts.Given as goal

abbrev pub invariant-loop-k : goal.invariant-loop-k
invariant-loop-k l = l.said.items ≡ map contains_part (range_with_len 0 l.k)
