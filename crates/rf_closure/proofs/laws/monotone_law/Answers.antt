use Rattle.std.proofs.Common.{arith}
use Rattle.rf_finite.proofs.Walks.{IsWalk-more}
use Rattle.rf_closure.proofs.laws.monotone_law.Goals as goal

pub returns : goal.returns
returns _ = λ edge edge' through through' n a b inner more_edges more_through la lb.
    IsWalk-more edge edge' through through' n n (omega arith) more_edges more_through a inner b la lb
