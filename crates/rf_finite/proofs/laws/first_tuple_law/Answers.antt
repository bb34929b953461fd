use Rattle.rf_finite.proofs.Tuples.{first_tuple-is_first}
use Rattle.rf_finite.proofs.laws.first_tuple_law.Goals as goal

pub returns : goal.returns
returns _ = first_tuple-is_first
