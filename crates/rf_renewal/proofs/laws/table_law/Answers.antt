use Rattle.rf_renewal.proofs.Renewing.{renewed_is_right}
use Rattle.rf_renewal.proofs.laws.table_law.Goals as goal

pub returns : goal.returns
returns c = renewed_is_right
