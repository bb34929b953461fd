use Rattle.rf_finite.proofs.Range.{each-from_all_below, all_below-from_each}
use Rattle.rf_finite.proofs.laws.all_below_law.Goals as goal

pub returns : goal.returns
returns _ = λ n p. (each-from_all_below n p, all_below-from_each n p)
