use Rattle.rf_placement.proofs.Placed.{added_is_enough}
use Rattle.rf_placement.proofs.laws.added_law.Goals as goal

pub returns : goal.returns
returns _ = added_is_enough
