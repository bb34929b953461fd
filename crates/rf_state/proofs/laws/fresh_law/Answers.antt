use Rattle.rf_state.proofs.EditLemmas.{fresh_is}
use Rattle.rf_state.proofs.laws.fresh_law.Goals as goal

pub returns : goal.returns
returns _ = fresh_is
