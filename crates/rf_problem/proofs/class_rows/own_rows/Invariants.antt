use Rattle.rf_problem.proofs.AboveLemmas.{AreOwn}
use Rattle.rf_problem.proofs.class_rows.own_rows.Given as goal

abbrev pub invariant-loop-class : goal.invariant-loop-class
invariant-loop-class l = AreOwn l.rows.items l.class
