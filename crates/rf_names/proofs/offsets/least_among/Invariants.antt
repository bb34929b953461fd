use Rattle.std.proofs.Common.{◌≡◌, take}
use Rattle.std.specs.List.{flat_map}
use Rattle.rf_names.specs.Offsets.{least_of}
use Rattle.rf_names.proofs.offsets.least_among.Given as goal

abbrev pub invariant-loop-item : goal.invariant-loop-item
invariant-loop-item g l = l.least ≡ least_of (flat_map (g.R.OffsetRule.offsets l.rule) (take l.item-index l.items))
