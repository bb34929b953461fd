use Rattle.std.proofs.Common.{◌≡◌, map, take}
use Rattle.rf_names.specs.Tables.{numbers_among}
use Rattle.rf_names.proofs.supers.numbers_of.Given as goal

abbrev pub invariant-loop-name : goal.invariant-loop-name
invariant-loop-name l =
    l.numbers.items ≡ numbers_among (map (λ n. n.now) l.classes.names.items) (map (λ n. n.now) (take l.name-index l.names))
