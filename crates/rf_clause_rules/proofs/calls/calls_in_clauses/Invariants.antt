use Rattle.std.proofs.Common.{◌≡◌, take}
use Rattle.std.specs.List.{flat_map}
use Rattle.rf_clause_rules.specs.Calls.{calls_among}
use Rattle.rf_clause_rules.proofs.calls.calls_in_clauses.Given as goal

abbrev pub invariant-loop-clause : goal.invariant-loop-clause
invariant-loop-clause l = l.calls.items ≡ flat_map (calls_among l.names.declared.now)
    (take l.clause-index l.clauses)
