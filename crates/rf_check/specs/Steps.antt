-- For private functions: what one line does.
use Rattle.std.specs.Prelude.{◌≡◌, Bool, true, not, Some, [], ◌∷◌}
use Rattle.rf_problem.specs.declared.problem.Problem.{Problem}
use Rattle.rf_eval.specs.declared.scratch.Scratch.{Scratch}
use Rattle.rf_rules.specs.Decisions.{allowed, side}
use Rattle.rf_rules.specs.declared.decision.Decision.{Decision}
use Rattle.rf_tree.specs.Pending.{left_after}
use Rattle.rf_tree.specs.declared.line.Line.{Line}
use Rattle.rf_check.specs.Kept.{AreOf, left_of, state_of}
use Rattle.rf_check.specs.declared.pending.Pending.{Pending}

-- the problem of a state that is kept
abbrev pub problem_of : Scratch → Problem
problem_of s = s.state.problem.now

-- a decision is made of a state: it becomes that of the side that leads, and another is that of the other side
pub record IsSplit (old : Scratch) (d : Decision) (first : Bool) (new other : Scratch) : Type 0 where
  pub may : allowed (problem_of old) (state_of old) d ≡ true
  pub leading : state_of new ≡ side (problem_of old) (state_of old) d first
  pub other_side : state_of other ≡ side (problem_of old) (state_of old) d (not first)
  pub problem : problem_of new ≡ problem_of old
  pub of_other : problem_of other ≡ problem_of old

-- a line can stand, and what it leaves is kept
pub record TakesLine (p : Problem) (old : Pending) (line : Line) (new : Pending) : Type 0 where
  pub left : left_after p (line ∷ []) (left_of old) ≡ Some (left_of new)
  pub kept : AreOf p new
