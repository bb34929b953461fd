use Rattle.std.proofs.Common.{◌≡◌, ◌++◌, map, take}
use Rattle.rf_names.proofs.enum_tables.push_owner.Given as goal

abbrev pub invariant-loop-literal : goal.invariant-loop-literal
invariant-loop-literal l = l.owners.items ≡ l.initial.owners.items ++ map (λ x. l.number) (take l._literal-index l.class.literals)
