-- Private: no public contract cites this.
-- What a search knows of a state.
use Rattle.rf_problem.specs.declared.problem.Problem.{Problem}
use Rattle.rf_state.specs.State.{State}
use Rattle.rf_decide.specs.Counted.{IsCounted}
use Rattle.rf_search.specs.Pending.{Covers}
use Rattle.rf_search.specs.declared.knowledge.Knowledge.{Knowledge}

-- it is right of a state: each rule that fires is among those that may, and each count of decisions that is known is right
pub record IsKnown (p : Problem) (s : State) (knowledge : Knowledge) : Type 0 where
  pub covers : Covers p s knowledge.pending
  pub counted : IsCounted p s knowledge.counted
