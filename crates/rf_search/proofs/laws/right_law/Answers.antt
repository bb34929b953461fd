use Rattle.rf_search.proofs.RightLemmas.{right-from_outcome}
use Rattle.rf_search.proofs.laws.right_law.Goals as goal

pub returns : goal.returns
returns c = right-from_outcome c.final_law.ensures
