-- What a checker keeps of the states that are left to close.
use Rattle.std.specs.Prelude.{◌≡◌, Option, None, Some, List, [], ◌∷◌, All, map, reverse}
use Rattle.std.specs.Option.{ForSome}
use Rattle.rf_problem.specs.declared.problem.Problem.{Problem}
use Rattle.rf_eval.specs.declared.scratch.Scratch.{Scratch}
use Rattle.rf_state.specs.Meaning.{meaning}
use Rattle.rf_state.specs.State.{State}
use Rattle.rf_check.specs.declared.pending.Pending.{Pending}

-- the state that is kept of a side of a decision
abbrev pub state_of : Scratch → State
state_of s = meaning s.state

-- the states that are left to close, the first one first: the current one, and those of the other sides, the latest first;
-- none where there is no current one
abbrev pub left_by : Option Scratch → List Scratch → List State
left_by None others = []
left_by (Some current) others = state_of current ∷ map state_of (reverse others)

abbrev pub left_of : Pending → List State
left_of pending = left_by pending.current pending.others.items

-- a state that is kept is of this problem, and so is each
abbrev pub IsOf : Problem → Scratch → Type 0
IsOf p s = s.state.problem.now ≡ p

pub record AreOf (p : Problem) (pending : Pending) : Type 0 where
  pub current : ForSome pending.current (IsOf p)
  pub others : All (IsOf p) pending.others.items
