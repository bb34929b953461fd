use Rattle.std.proofs.Common.{◌≡◌, map, take}
use Rattle.std.specs.List.{flat_map}
use Rattle.rf_names.specs.Bodies.{literal_names}
use Rattle.rf_names.proofs.bodies.names_of_literals.Given as goal

abbrev pub invariant-loop-literal : goal.invariant-loop-literal
invariant-loop-literal l = map (λ n. n.now) l.names.items ≡ flat_map (literal_names l.arguments.names.now.declared.now l.arguments.params.now) (map (λ l. l.now) (take l.literal-index l.literals))
