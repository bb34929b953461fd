use Rattle.rf_finite.proofs.Walks.{IsWalk-reverse}
use Rattle.rf_closure.proofs.laws.reverse_law.Goals as goal

pub returns : goal.returns
returns _ = λ edge through n a b inner. IsWalk-reverse edge through n a inner b
