use Rattle.rf_search.proofs.RankLemmas.{rule_narrows}
use Rattle.rf_search.proofs.laws.narrowing_law.Goals as goal

pub returns : goal.returns
returns _ = rule_narrows
