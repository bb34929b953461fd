use Rattle.std.proofs.Common.{◌≡◌, take}
use Rattle.std.specs.List.{flat_map}
use Rattle.rf_names.specs.Offsets.{least_of}
use Rattle.rf_structure_rules.specs.StructureOffsets.{bad_mult}
use Rattle.rf_structure_rules.proofs.ranges.bad_mults.Given as goal

abbrev pub invariant-loop-reference : goal.invariant-loop-reference
invariant-loop-reference l = l.least ≡ least_of (flat_map (λ r. bad_mult r.feature.mult) (take l.reference-index l.references))
