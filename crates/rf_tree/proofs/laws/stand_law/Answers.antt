use Rattle.rf_tree.proofs.PrefixLemmas.{prefixes_stand}
use Rattle.rf_tree.proofs.TreeLaws.{stand_is_computed}
use Rattle.rf_tree.proofs.laws.stand_law.Goals as goal

pub returns-clause-computed : goal.returns-clause-computed
returns-clause-computed _ = stand_is_computed

pub returns-clause-prefix : goal.returns-clause-prefix
returns-clause-prefix _ = prefixes_stand
