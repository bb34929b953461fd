use Rattle.std.proofs.Common.{◌≡◌, map}
use Rattle.std.specs.List.{range_with_len}
use Rattle.rf_grow.specs.Grown.{part_object}
use Rattle.rf_grow.proofs.objects.parts.Given as goal

abbrev pub invariant-loop-k : goal.invariant-loop-k
invariant-loop-k l = l.objects.items ≡ map part_object (range_with_len 0 l.k)
