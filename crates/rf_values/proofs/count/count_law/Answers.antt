use Rattle.rf_values.proofs.Single.{one-from_single, single-from_one}
use Rattle.rf_values.proofs.count.count_law.Goals as goal

pub returns-clause-single : goal.returns-clause-single
returns-clause-single _ = λ a. (one-from_single a.lo a.hi, single-from_one a.lo a.hi)
