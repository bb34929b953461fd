use Rattle.std.proofs.Common.{◌≡◌, map, take}
use Rattle.std.specs.List.{flat_map}
use Rattle.rf_names.proofs.enum_tables.literals_of.Given as goal

abbrev pub invariant-loop-class : goal.invariant-loop-class
invariant-loop-class l = map (λ n. n.now) l.names.items ≡ flat_map (λ c. c.literals) (take l.class-index l.classes)
