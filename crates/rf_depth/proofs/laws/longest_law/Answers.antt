use Rattle.rf_depth.proofs.Longest.{lines_tell_longest, longest_is_greatest}
use Rattle.rf_depth.proofs.Ways.{few-decisions}
use Rattle.rf_depth.proofs.laws.longest_law.Goals as goal

pub returns-clause-greatest : goal.returns-clause-greatest
returns-clause-greatest c = longest_is_greatest

pub returns-clause-lines : goal.returns-clause-lines
returns-clause-lines c = lines_tell_longest

pub returns-clause-few : goal.returns-clause-few
returns-clause-few c = few-decisions
