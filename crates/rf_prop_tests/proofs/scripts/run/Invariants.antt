use Rattle.rf_search.specs.Pending.{Covers}
use Rattle.rf_prop_tests.proofs.scripts.run.Given as goal

abbrev pub invariant-loop : goal.invariant-loop
invariant-loop g l = Covers (g.E.Facts.problem l.e) (g.E.Facts.state l.e) l.pending
