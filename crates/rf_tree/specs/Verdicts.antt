-- What a checker says of the lines of a tree.
use Rattle.std.specs.Prelude.{◌≡◌, ◌<◌, ◌+◌, ℕ, List, length, take}
use Rattle.rf_problem.specs.declared.problem.Problem.{Problem}
use Rattle.rf_graph.specs.Violations.{Sat}
use Rattle.rf_graph.specs.declared.graph.Graph.{Graph}
use Rattle.rf_tree.specs.Lines.{CanStand, Open, Valid}
use Rattle.rf_tree.specs.Pending.{decisions_in}
use Rattle.rf_tree.specs.declared.checked.Checked.{Checked}
use Rattle.rf_tree.specs.declared.checked.Checked.TheVariants.{Refuted, Rejected, Unfinished}
use Rattle.rf_tree.specs.declared.line.Line.{Line}

-- the line of this number, counted from 0, is the first that can't stand
pub record IsFirstRefused (p : Problem) (lines : List Line) (k : ℕ) : Type 0 where
  pub there : k < length lines
  pub before : CanStand p (take k lines)
  pub refused : CanStand p (take (k + 1) lines) → ⊥

-- refuted where the lines are valid, unfinished where they are open, each with the number of decisions; otherwise rejected, with the
-- first line that can't stand
abbrev pub IsChecked : Problem → List Line → Checked → Type 0
IsChecked p lines (Refuted n) = Valid p lines × (n ≡ decisions_in lines)
IsChecked p lines (Unfinished n) = Open p lines n
IsChecked p lines (Rejected k) = IsFirstRefused p lines k

-- a refutation means that no graph satisfies the problem
abbrev pub MeansNoGraph : Problem → Checked → Type 0
MeansNoGraph p (Refuted n) = (g : Graph) → Sat p g → ⊥
MeansNoGraph p (Unfinished n) = Unit {0}
MeansNoGraph p (Rejected k) = Unit {0}
