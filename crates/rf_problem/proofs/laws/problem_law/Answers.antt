use Rattle.rf_problem.proofs.ProblemLemmas.{same_problem}
use Rattle.rf_problem.proofs.laws.problem_law.Goals as goal

pub returns : goal.returns
returns _ = same_problem
