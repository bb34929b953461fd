use Rattle.rf_tree.proofs.StopLemmas.{met_ends, met_is_bad}
use Rattle.rf_tree.proofs.laws.bad_line_law.Goals as goal

pub returns-clause-bad : goal.returns-clause-bad
returns-clause-bad _ = met_is_bad

pub returns-clause-lines : goal.returns-clause-lines
returns-clause-lines _ = met_ends
