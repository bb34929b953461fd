use Rattle.rf_final.proofs.Whole.{final_is_concretised}
use Rattle.rf_final.proofs.laws.concretised_law.Goals as goal

pub returns : goal.returns
returns c = final_is_concretised
