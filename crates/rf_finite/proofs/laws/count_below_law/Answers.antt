use Rattle.rf_finite.proofs.Repeats.{count_below-listed}
use Rattle.rf_finite.proofs.laws.count_below_law.Goals as goal

pub returns : goal.returns
returns _ = count_below-listed
