use Rattle.rf_tree.proofs.TreeLaws.{left_are_holes, open_is_computed}
use Rattle.rf_tree.proofs.laws.open_law.Goals as goal

pub returns-clause-computed : goal.returns-clause-computed
returns-clause-computed _ = open_is_computed

pub returns-clause-holes : goal.returns-clause-holes
returns-clause-holes _ = left_are_holes
