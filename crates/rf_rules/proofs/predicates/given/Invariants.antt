use Rattle.rf_rules.proofs.PredicateLemmas.{AreGiven}
use Rattle.rf_rules.proofs.predicates.given.Given as goal

abbrev pub invariant-loop-v : goal.invariant-loop-v
invariant-loop-v l = AreGiven l.variables l.objects l.places l.v l.used
