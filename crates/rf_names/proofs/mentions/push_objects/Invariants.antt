use Rattle.std.proofs.Common.{◌≡◌, ◌++◌, map, take}
use Rattle.std.specs.List.{flat_map}
use Rattle.rf_names.specs.Declarations.{object_in}
use Rattle.rf_names.proofs.mentions.push_objects.Given as goal

abbrev pub invariant-loop-arg : goal.invariant-loop-arg
invariant-loop-arg l = map (λ n. n.now) l.out.items ≡ map (λ n. n.now) l.initial.out.items ++ flat_map object_in (take l.arg-index l.args)
