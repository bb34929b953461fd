use Rattle.std.proofs.Common.{◌≡◌}
use Rattle.rf_prop_broken.specs.Dependence.{depends, is_found}
use Rattle.rf_prop_broken.proofs.dependence.dependents.Given as goal

abbrev pub invariant-loop : goal.invariant-loop
invariant-loop l = is_found l.found.items ≡ depends l.problem.predicates l.pair l.counter
