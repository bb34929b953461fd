use Rattle.rf_depth.proofs.NodeEnds.{depth_is_none, node_end_is_least}
use Rattle.rf_depth.proofs.Ways.{lines_are_within, longest_is_within}
use Rattle.rf_depth.proofs.laws.depth_law.Goals as goal

pub returns-clause-bound : goal.returns-clause-bound
returns-clause-bound c = node_end_is_least

pub returns-clause-unbounded : goal.returns-clause-unbounded
returns-clause-unbounded c = depth_is_none

pub returns-clause-tree : goal.returns-clause-tree
returns-clause-tree c = longest_is_within

pub returns-clause-lines : goal.returns-clause-lines
returns-clause-lines c = lines_are_within
