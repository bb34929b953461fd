use Rattle.std.proofs.Common.{◌≡◌, map, take}
use Rattle.rf_names.specs.Offsets.{least_of}
use Rattle.rf_name_rules.specs.NameOffsets.{repeated}
use Rattle.rf_name_rules.proofs.RepeatedNames.{Marks}
use Rattle.rf_name_rules.proofs.repeats.repeated.Given as goal

abbrev pub invariant-loop-name : goal.invariant-loop-name
invariant-loop-name l = record {
  least : l.least ≡ least_of (repeated (map (λ t. t.now) l.reserved) (map (λ n. n.now) (take l.name-index l.names)));
  marks : Marks (map (λ n. n.now) (take l.name-index l.names)) l.seen;
}
