use Rattle.std.proofs.Common.{◌≡◌, map, take}
use Rattle.rf_names.specs.LookUp.{class_named, the_number}
use Rattle.rf_build.proofs.classes.class_numbers.Given as goal

abbrev pub invariant-loop-name : goal.invariant-loop-name
invariant-loop-name l =
    l.numbers.items ≡ map (λ s. the_number (class_named l.names.declared.now s.text))
    (map (λ s. s.now) (take l.name-index l.supers))
