use Rattle.std.proofs.Common.{◌≡◌, [], map, take}
use Rattle.rf_names.specs.LookUp.{first_of_each}
use Rattle.rf_names.proofs.numbering.Numbering.of_first.Given as goal

abbrev pub invariant-loop-name : goal.invariant-loop-name
invariant-loop-name l = map (λ n. n.now) l.numbering.names.items ≡ first_of_each [] (map (λ n. n.now) (take l.name-index l.names))
