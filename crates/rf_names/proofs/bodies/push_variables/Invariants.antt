use Rattle.std.proofs.Common.{◌≡◌, ◌++◌, filter, map, not, take}
use Rattle.rf_names.specs.Declarations.{is_atom_argument}
use Rattle.rf_names.proofs.bodies.push_variables.Given as goal

abbrev pub invariant-loop-name : goal.invariant-loop-name
invariant-loop-name l =
    map (λ n. n.now) l.out.items
    ≡ map (λ n. n.now) l.initial.out.items
    ++ filter (λ n. not (is_atom_argument l.arguments.names.now.declared.now.atoms l.arguments.params.now n)) (map (λ n. n.now) (take l.name-index l.names))
