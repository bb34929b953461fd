use Rattle.rf_finite.proofs.Walks.{IsWalk-before, IsWalk-after}
use Rattle.rf_closure.proofs.laws.split_law.Goals as goal

pub returns : goal.returns
returns _ = λ edge through n a c b before after w.
    let rest = IsWalk-after edge through n a before c after b w in
    (IsWalk-before edge through n a before c after b w, rest.0, rest.1, rest.2)
