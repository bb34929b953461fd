use Rattle.rf_check.proofs.VerdictLaws.{verdict_is_of_lines, verdict_is_one}
use Rattle.rf_check.proofs.laws.verdict_law.Goals as goal

pub returns-clause-one : goal.returns-clause-one
returns-clause-one _ = verdict_is_one

pub returns-clause-lines : goal.returns-clause-lines
returns-clause-lines _ = verdict_is_of_lines
