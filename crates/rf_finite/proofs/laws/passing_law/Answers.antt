use Rattle.rf_finite.proofs.Passing.{passing_all, passing_in_order}
use Rattle.rf_finite.proofs.laws.passing_law.Goals as goal

pub returns-clause-all : goal.returns-clause-all
returns-clause-all c = passing_all

pub returns-clause-in_order : goal.returns-clause-in_order
returns-clause-in_order c = passing_in_order
