use Rattle.rf_search.proofs.FamilyLemmas.{families_in_order}
use Rattle.rf_search.proofs.laws.families_law.Goals as goal

pub returns : goal.returns
returns _ = families_in_order
