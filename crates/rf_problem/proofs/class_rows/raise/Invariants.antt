use Rattle.rf_problem.proofs.AboveLemmas.{IsRaised}
use Rattle.rf_problem.proofs.class_rows.raise.Given as goal

abbrev pub invariant-loop-class : goal.invariant-loop-class
invariant-loop-class l = IsRaised l.classes l.initial.rows l.rows l.class l.grew
