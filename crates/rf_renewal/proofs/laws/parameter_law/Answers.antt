use Rattle.rf_renewal.proofs.Parameters.{parameters_are_enough}
use Rattle.rf_renewal.proofs.laws.parameter_law.Goals as goal

pub returns : goal.returns
returns c = parameters_are_enough
