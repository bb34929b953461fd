use Rattle.std.proofs.Common.{map, take}
use Rattle.rf_names.specs.Tables.{AreListed}
use Rattle.rf_names.proofs.listing.numbers_by_name.Given as goal

abbrev pub invariant-loop-number : goal.invariant-loop-number
invariant-loop-number l = AreListed (map (λ r. r.feature.name) (take l.number l.references)) l.lists
