use Rattle.rf_finite.proofs.Walks.{IsReachable-from_walk_below, walk_below-from_IsWalk}
use Rattle.rf_finite.proofs.laws.walk_law.Goals as goal

pub returns : goal.returns
returns _ = λ edge through n a b. (IsReachable-from_walk_below edge through n a b, λ w. walk_below-from_IsWalk edge through n a w.0 b w.1)
