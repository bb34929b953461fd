use Rattle.std.proofs.Common.{◌≡◌, [], map, replicate}
use Rattle.rf_clause_rules.proofs.recursion.no_callers.Given as goal

abbrev pub invariant-loop-number : goal.invariant-loop-number
invariant-loop-number l = map (λ list. list.items) l.callers.items ≡ replicate l._number []
