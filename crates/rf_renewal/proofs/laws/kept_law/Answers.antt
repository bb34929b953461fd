use Rattle.rf_renewal.proofs.Staying.{values_stay, walks_stay}
use Rattle.rf_renewal.proofs.laws.kept_law.Goals as goal

pub returns-clause-values : goal.returns-clause-values
returns-clause-values c = values_stay

pub returns-clause-walks : goal.returns-clause-walks
returns-clause-walks c = walks_stay
