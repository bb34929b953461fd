-- Outcomes that keep to the depth.
use Rattle.std.specs.Prelude.{◌≡◌, ℕ, ◌^◌, ◌≤◌, Some, List}
use Rattle.rf_problem.specs.declared.problem.Problem.{Problem}
use Rattle.rf_tree.specs.declared.line.Line.{Line}
use Rattle.rf_tree.specs.declared.outcome.Outcome.{Outcome}
use Rattle.rf_tree.specs.declared.outcome.Outcome.TheVariants.{Found, Refuted, Unfinished}
use Rattle.rf_depth.specs.Depth.{depth}
use Rattle.rf_depth.specs.Ways.{longest_in}

-- where the problem has a depth, no way of the tree of these lines holds more decisions
abbrev pub AreShallow : Problem → List Line → Type 0
AreShallow p lines = (d : ℕ) → depth p ≡ Some d → longest_in lines ≤ d

-- so it is of the lines of a refutation, and of unfinished ones
abbrev pub IsShallow : Problem → Outcome → Type 0
IsShallow p (Found g) = Unit {0}
IsShallow p (Refuted lines) = AreShallow p lines
IsShallow p (Unfinished lines) = AreShallow p lines

-- the problem has a depth, and the budget is at least two to the power of it
abbrev pub IsEnough : Problem → ℕ → Type 0
IsEnough p budget = (d : ℕ) × (depth p ≡ Some d) × (2 ^ d ≤ budget)

-- it is a graph or a refutation
abbrev pub IsFinished : Outcome → Type 0
IsFinished (Found g) = Unit {0}
IsFinished (Refuted lines) = Unit {0}
IsFinished (Unfinished lines) = ⊥
