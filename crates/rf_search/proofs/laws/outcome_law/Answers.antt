use Rattle.rf_search.proofs.OnceLemmas.{outcome_once}
use Rattle.rf_search.proofs.laws.outcome_law.Goals as goal

pub returns : goal.returns
returns c = outcome_once
