use Rattle.std.proofs.Common.{◌≡◌, take}
use Rattle.rf_names.specs.Offsets.{least_of}
use Rattle.rf_structure_rules.specs.StructureOffsets.{bad_opposites_from}
use Rattle.rf_structure_rules.proofs.opposites.bad_among.Given as goal

abbrev pub invariant-loop-number : goal.invariant-loop-number
invariant-loop-number l = l.least ≡ least_of (bad_opposites_from l.names.declared.now 0 (take l.number l.references))
