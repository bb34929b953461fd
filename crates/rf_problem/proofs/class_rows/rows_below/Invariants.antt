use Rattle.rf_problem.specs.Above.{AreBelow}
use Rattle.rf_problem.proofs.class_rows.rows_below.Given as goal

abbrev pub invariant-loop-top : goal.invariant-loop-top
invariant-loop-top l = AreBelow l.classes l.top l.rows.items
