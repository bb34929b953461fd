use Rattle.rf_placement.proofs.Root.{root_is_concretised}
use Rattle.rf_placement.proofs.laws.root_law.Goals as goal

pub returns : goal.returns
returns _ = root_is_concretised
