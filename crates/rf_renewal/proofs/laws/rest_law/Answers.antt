use Rattle.rf_renewal.proofs.Resting.{unrelated_values_stay, unrelated_walks_stay}
use Rattle.rf_renewal.proofs.laws.rest_law.Goals as goal

pub returns-clause-values : goal.returns-clause-values
returns-clause-values c = unrelated_values_stay

pub returns-clause-walks : goal.returns-clause-walks
returns-clause-walks c = unrelated_walks_stay
