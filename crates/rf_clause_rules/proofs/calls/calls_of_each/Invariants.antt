use Rattle.std.proofs.Common.{◌≡◌, map, take}
use Rattle.rf_clause_rules.specs.Calls.{calls_of}
use Rattle.rf_clause_rules.proofs.calls.calls_of_each.Given as goal

abbrev pub invariant-loop-predicate : goal.invariant-loop-predicate
invariant-loop-predicate l = map (λ list. list.items) l.lists.items
    ≡ map (calls_of l.names.declared.now) (take l.predicate-index l.predicates)
