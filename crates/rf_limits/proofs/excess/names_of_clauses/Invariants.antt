use Rattle.std.proofs.Common.{◌≡◌, map, take}
use Rattle.std.specs.List.{flat_map}
use Rattle.rf_limits.specs.Limits.{clause_name}
use Rattle.rf_limits.proofs.excess.names_of_clauses.Given as goal

abbrev pub invariant-loop-clause : goal.invariant-loop-clause
invariant-loop-clause l = map (λ n. n.now) l.names.items ≡ flat_map clause_name (take l.clause-index l.clauses)
