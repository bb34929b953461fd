-- What a checker knows after the lines that it was fed.
use Rattle.std.specs.Prelude.{◌≡◌, ℕ, true, false, Option, None, Some, List, [], ◌∷◌, length}
use Rattle.rf_problem.specs.declared.problem.Problem.{Problem}
use Rattle.rf_state.specs.State.{IsRoot, State}
use Rattle.rf_tree.specs.Pending.{decisions_in, left_after}
use Rattle.rf_tree.specs.Verdicts.{IsFirstRefused}
use Rattle.rf_tree.specs.declared.line.Line.{Line}
use Rattle.rf_check.specs.Kept.{AreOf, left_of}
use Rattle.rf_check.specs.declared.checker.Checker.{Checker}

-- the lines can stand, and the checker keeps what they leave to be closed and how many decisions they have
pub record Stands (p : Problem) (c : Checker) (lines : List Line) : Type 0 where
  pub root : State
  pub is_root : IsRoot p root
  pub left : left_after p lines (root ∷ []) ≡ Some (left_of c.pending)
  pub kept : AreOf p c.pending
  pub decisions : c.decisions ≡ decisions_in lines

-- what it knows, where no line was refused, and where one was
abbrev pub Knows : Problem → Checker → List Line → Option ℕ → Type 0
Knows p c lines None = Stands p c lines
Knows p c lines (Some k) = IsFirstRefused p lines k

-- the checker was made for this problem and fed these lines, and had the memory for them
pub record HasChecked (p : Problem) (c : Checker) (lines : List Line) : Type 0 where
  pub going : c.failed ≡ false
  pub fed : c.fed ≡ length lines
  pub knows : Knows p c lines c.refused

-- how many lines were fed to it
abbrev pub fed : Checker → ℕ
fed c = c.fed

-- memory ran out while it was fed
abbrev pub HasFailed : Checker → Type 0
HasFailed c = c.failed ≡ true
