use Rattle.rf_state.proofs.RootLemmas.{root-unique}
use Rattle.rf_state.proofs.laws.root_law.Goals as goal

pub returns : goal.returns
returns _ = root-unique
