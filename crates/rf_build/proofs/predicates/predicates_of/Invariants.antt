use Rattle.std.proofs.Common.{◌≡◌, map, take}
use Rattle.rf_build.specs.Resolved.{resolved_predicate}
use Rattle.rf_build.proofs.predicates.predicates_of.Given as goal

abbrev pub invariant-loop-predicate : goal.invariant-loop-predicate
invariant-loop-predicate l = l.resolved.items ≡ map (resolved_predicate l.names.declared.now)
    (take l.predicate-index l.predicates)
