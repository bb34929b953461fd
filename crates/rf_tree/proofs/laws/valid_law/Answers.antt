use Rattle.rf_tree.proofs.TreeLaws.{valid_is_computed, valid_is_whole}
use Rattle.rf_tree.proofs.laws.valid_law.Goals as goal

pub returns-clause-computed : goal.returns-clause-computed
returns-clause-computed _ = valid_is_computed

pub returns-clause-whole : goal.returns-clause-whole
returns-clause-whole _ = valid_is_whole
