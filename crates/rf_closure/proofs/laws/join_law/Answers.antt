use Rattle.rf_finite.proofs.Walks.{IsWalk-append}
use Rattle.rf_closure.proofs.laws.join_law.Goals as goal

pub returns : goal.returns
returns _ = λ edge through n a c b before after. IsWalk-append edge through n a before c after b
