use Rattle.rf_final.proofs.Whole.{final_satisfies}
use Rattle.rf_final.proofs.laws.final_law.Goals as goal

pub returns : goal.returns
returns c = final_satisfies
