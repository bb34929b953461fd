-- What holds of the choice of decisions.
use Rattle.std.specs.Prelude.{◌≡◌, ◌↔◌, ℕ, Bool, true, false, None, Some, Contains}
use Rattle.rf_problem.specs.declared.problem.Problem.{Problem}
use Rattle.rf_state.specs.State.{State}
use Rattle.rf_rules.specs.Decisions.{allowed}
use Rattle.rf_rules.specs.declared.decision.Decision.{Decision}
use Rattle.rf_decide.specs.Choice.{chosen, members}

-- a decision that is chosen is allowed
abbrev pub ChosenIsAllowed : Type 0
ChosenIsAllowed = (p : Problem) (s : State) (w : ℕ) (d : Decision) (first : Bool) → chosen p s w ≡ Some (d, first) → allowed p s d ≡ true

-- none is chosen exactly where none is allowed
abbrev pub NoneIsChosenWhereNoneIsAllowed : Type 0
NoneIsChosenWhereNoneIsAllowed = (p : Problem) (s : State) (w : ℕ) → (chosen p s w ≡ None) ↔ ((d : Decision) → allowed p s d ≡ false)

-- each of the members among which one is chosen is allowed
abbrev pub MembersAreAllowed : Type 0
MembersAreAllowed = (p : Problem) (s : State) (d : Decision) → Contains (members p s) d → allowed p s d ≡ true
