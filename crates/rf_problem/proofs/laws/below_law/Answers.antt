use Rattle.rf_problem.proofs.Below.{IsBelow-from_is_below, is_below-from_IsBelow}
use Rattle.rf_problem.proofs.laws.below_law.Goals as goal

pub returns : goal.returns
returns _ = λ classes c d. (IsBelow-from_is_below classes c d, is_below-from_IsBelow classes c d)
