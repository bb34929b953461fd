use Rattle.rf_graph.proofs.FirstOfAll.{FirstViolation-from_first_violation, first_violation-from_FirstViolation, Sat-from_no_violation, no_violation-from_Sat}
use Rattle.rf_graph.proofs.laws.first_violation_law.Goals as goal

pub returns-clause-some : goal.returns-clause-some
returns-clause-some _ = λ p g v fits. (FirstViolation-from_first_violation p g fits v, first_violation-from_FirstViolation p g fits v)

pub returns-clause-none : goal.returns-clause-none
returns-clause-none _ = λ p g fits. (Sat-from_no_violation p g fits, no_violation-from_Sat p g fits)
