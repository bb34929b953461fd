use Rattle.std.proofs.Common.{◌≡◌, ◌++◌, map, take}
use Rattle.std.specs.List.{flat_map}
use Rattle.rf_clause_rules.specs.Calls.{calls_in}
use Rattle.rf_clause_rules.proofs.calls.push_calls.Given as goal

abbrev pub invariant-loop-literal : goal.invariant-loop-literal
invariant-loop-literal l = l.calls.items ≡ l.initial.calls.items
    ++ flat_map (calls_in l.names.declared.now) (map (λ m. m.now) (take l.literal-index l.literals))
