use Rattle.std.proofs.Common.{◌≡◌, take}
use Rattle.rf_names.specs.Offsets.{least_of, offsets_in_literals}
use Rattle.rf_clause_rules.specs.ClauseOffsets.{recursive_literal}
use Rattle.rf_clause_rules.proofs.recursion.least_in_calls.Given as goal

abbrev pub invariant-loop-number : goal.invariant-loop-number
invariant-loop-number l =
    l.least ≡ least_of (offsets_in_literals (recursive_literal l.names.declared.now)
    (take l.number l.names.declared.now.predicates))
