use Rattle.rf_finite.proofs.Range.{IsFirstValue-from_first_below, first_below-from_IsFirstValue, each-from_first_below, first_below-none}
use Rattle.rf_finite.proofs.laws.first_below_law.Goals as goal

pub returns-clause-least : goal.returns-clause-least
returns-clause-least g c = λ n f v. (IsFirstValue-from_first_below n f v, first_below-from_IsFirstValue n f v)

pub returns-clause-none : goal.returns-clause-none
returns-clause-none g c = λ n f. (each-from_first_below n f, first_below-none n f)
