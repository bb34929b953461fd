use Rattle.rf_placement.proofs.Values.{values_are_kept}
use Rattle.rf_placement.proofs.laws.value_law.Goals as goal

pub returns : goal.returns
returns _ = values_are_kept
