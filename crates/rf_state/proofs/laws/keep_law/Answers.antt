use Rattle.rf_state.proofs.EditLemmas.{keeping}
use Rattle.rf_state.proofs.laws.keep_law.Goals as goal

pub returns : goal.returns
returns _ = keeping
