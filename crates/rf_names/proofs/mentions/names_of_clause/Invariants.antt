use Rattle.std.proofs.Common.{◌≡◌, ◌++◌, map, take}
use Rattle.std.specs.List.{flat_map}
use Rattle.rf_names.specs.Declarations.{argument_names}
use Rattle.rf_names.proofs.mentions.names_of_clause.Given as goal

abbrev pub invariant-loop-literal : goal.invariant-loop-literal
invariant-loop-literal l =
    map (λ n. n.now) l.names.items ≡ argument_names l.clause.first ++ flat_map argument_names (take l.literal-index l.literal-items)
