use Rattle.rf_problem.proofs.AboveLemmas.{AreNear}
use Rattle.rf_problem.proofs.class_rows.complete.Given as goal

abbrev pub invariant-loop-round : goal.invariant-loop-round
invariant-loop-round l = AreNear l.classes l.rows l._round
