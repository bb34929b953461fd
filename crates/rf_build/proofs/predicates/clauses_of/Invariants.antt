use Rattle.std.proofs.Common.{◌≡◌, map, take}
use Rattle.rf_build.specs.Resolved.{resolved_clause}
use Rattle.rf_build.proofs.predicates.clauses_of.Given as goal

abbrev pub invariant-loop-clause : goal.invariant-loop-clause
invariant-loop-clause l = l.resolved.items
    ≡ map (resolved_clause l.arguments.names.now.declared.now l.arguments.params.now) (take l.clause-index l.clauses)
