use Rattle.rf_check.proofs.VerdictLaws.{met_is_rejected, rejected_stays}
use Rattle.rf_check.proofs.VerifierLemmas.{judged_meets_none}
use Rattle.rf_check.proofs.laws.rejected_law.Goals as goal

pub returns-clause-met : goal.returns-clause-met
returns-clause-met _ = rejected_stays

pub returns-clause-rejected : goal.returns-clause-rejected
returns-clause-rejected _ = met_is_rejected

pub returns-clause-none : goal.returns-clause-none
returns-clause-none _ = judged_meets_none
