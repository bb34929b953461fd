use Rattle.rf_rules.proofs.DecisionLemmas.{sides_differ}
use Rattle.rf_rules.proofs.laws.decision_law.Goals as goal

pub returns : goal.returns
returns _ = sides_differ
