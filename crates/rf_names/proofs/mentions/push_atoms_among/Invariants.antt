use Rattle.std.proofs.Common.{◌≡◌, ◌++◌, filter, map, take}
use Rattle.rf_names.specs.Gathering.{is_atom_among}
use Rattle.rf_names.proofs.mentions.push_atoms_among.Given as goal

abbrev pub invariant-loop-name : goal.invariant-loop-name
invariant-loop-name l =
    map (λ n. n.now) l.out.items
    ≡ map (λ n. n.now) l.initial.out.items
    ++ filter (is_atom_among (map (λ n. n.now) l.atoms.names.items) (map (λ n. n.now) l.params.names.items)) (map (λ n. n.now) (take l.name-index l.names))
