use Rattle.rf_search.proofs.DepthLemmas.{enough_is_finished, outcome_is_shallow}
use Rattle.rf_search.proofs.laws.bound_law.Goals as goal

pub returns-clause-shallow : goal.returns-clause-shallow
returns-clause-shallow c = outcome_is_shallow

pub returns-clause-enough : goal.returns-clause-enough
returns-clause-enough c = enough_is_finished
