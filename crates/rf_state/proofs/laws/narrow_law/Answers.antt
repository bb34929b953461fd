use Rattle.rf_state.proofs.EditLemmas.{narrowing}
use Rattle.rf_state.proofs.laws.narrow_law.Goals as goal

pub returns : goal.returns
returns _ = narrowing
