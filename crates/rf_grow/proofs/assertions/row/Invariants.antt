use Rattle.std.proofs.Common.{◌≡◌, map}
use Rattle.std.specs.List.{range_with_len}
use Rattle.rf_grow.specs.Grown.{leads_on}
use Rattle.rf_grow.proofs.assertions.row.Given as goal

abbrev pub invariant-loop-k : goal.invariant-loop-k
invariant-loop-k l = l.said.items ≡ map leads_on (range_with_len 0 l.k)
