use Rattle.std.proofs.Common.{◌≡◌, map, take}
use Rattle.std.specs.List.{flat_map}
use Rattle.rf_names.specs.Offsets.{least_of}
use Rattle.rf_structure_rules.specs.StructureOffsets.{bad_range}
use Rattle.rf_structure_rules.proofs.ranges.bad_bounds.Given as goal

abbrev pub invariant-loop-bound : goal.invariant-loop-bound
invariant-loop-bound l = l.least ≡ least_of (flat_map (λ i. bad_range i.range) (map (λ i. i.now) (take l.bound-index l.bounds)))
