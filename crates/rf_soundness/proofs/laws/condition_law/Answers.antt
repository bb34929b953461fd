use Rattle.rf_soundness.proofs.Conditions.{condition_is_in_words}
use Rattle.rf_soundness.proofs.laws.condition_law.Goals as goal

pub returns : goal.returns
returns _ = condition_is_in_words
