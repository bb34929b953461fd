use Rattle.rf_finite.proofs.Range.{one-from_some_below, some_below-from_one}
use Rattle.rf_finite.proofs.laws.some_below_law.Goals as goal

pub returns : goal.returns
returns _ = λ n p. (one-from_some_below n p, λ one. some_below-from_one n p one.0 one.1 one.2)
