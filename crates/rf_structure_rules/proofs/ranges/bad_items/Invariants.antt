use Rattle.std.proofs.Common.{◌≡◌, map, take}
use Rattle.std.specs.List.{flat_map}
use Rattle.rf_names.specs.Offsets.{least_of}
use Rattle.rf_structure_rules.specs.StructureOffsets.{bad_range_or_none}
use Rattle.rf_structure_rules.proofs.ranges.bad_items.Given as goal

abbrev pub invariant-loop-item : goal.invariant-loop-item
invariant-loop-item l = l.least ≡ least_of (flat_map (λ i. bad_range_or_none i.range) (map (λ i. i.now) (take l.item-index l.items)))
