use Rattle.rf_grow.proofs.Once.{grown_once}
use Rattle.rf_grow.proofs.laws.one_problem_law.Goals as goal

pub returns : goal.returns
returns c = grown_once
