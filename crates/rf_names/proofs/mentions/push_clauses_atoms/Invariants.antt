use Rattle.std.proofs.Common.{◌≡◌, ◌++◌, map, take}
use Rattle.std.specs.List.{flat_map}
use Rattle.rf_names.specs.Declarations.{items_of}
use Rattle.rf_names.specs.Gathering.{atoms_among}
use Rattle.rf_names.proofs.mentions.push_clauses_atoms.Given as goal

abbrev pub invariant-loop-clause : goal.invariant-loop-clause
invariant-loop-clause l =
    map (λ n. n.now) l.out.items
    ≡ map (λ n. n.now) l.initial.out.items
    ++ flat_map (λ clause. atoms_among (map (λ n. n.now) l.atoms.names.items) (map (λ n. n.now) l.params.names.items) (items_of clause)) (take l.clause-index l.clauses)
