use Rattle.std.proofs.Common.{◌≡◌, take}
use Rattle.rf_names.specs.Tables.{owners_from}
use Rattle.rf_names.proofs.enum_tables.owners_of.Given as goal

abbrev pub invariant-loop-number : goal.invariant-loop-number
invariant-loop-number l = l.owners.items ≡ owners_from 0 (take l.number l.classes)
