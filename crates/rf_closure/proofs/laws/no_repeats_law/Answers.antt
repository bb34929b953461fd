use Rattle.rf_finite.proofs.Walks.{IsWalk-without_repeats, IsWalk-length}
use Rattle.rf_closure.proofs.laws.no_repeats_law.Goals as goal

pub returns : goal.returns
returns _ = λ edge through n a b. (
  λ walk. let r = IsWalk-without_repeats edge through n a walk.0 b walk.1 in (r.0, r.1, r.2, IsWalk-length edge through n a r.0 b r.1 r.2),
  λ walk. (walk.0, walk.1),
)
