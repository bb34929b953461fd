-- The course of a search: lines each of which is the one that the search takes where it stands.
use Rattle.std.specs.Prelude.{◌≡◌, ℕ, ◌+◌, true, false, not, None, Some, List, [], ◌∷◌, ◌++◌}
use Rattle.rf_problem.specs.declared.problem.Problem.{Problem}
use Rattle.rf_state.specs.State.{IsRoot, State}
use Rattle.rf_rules.specs.Decisions.{side}
use Rattle.rf_rules.specs.Rules.{after, is_closing}
use Rattle.rf_tree.specs.Pending.{decisions_in}
use Rattle.rf_tree.specs.declared.line.Line.{Line}
use Rattle.rf_tree.specs.declared.line.Line.TheVariants.{Close, Decide, Step}
use Rattle.rf_decide.specs.Choice.{chosen}
use Rattle.rf_decide.specs.Words.{word}
use Rattle.rf_search.specs.Least.{IsLeast}

-- a place in a tree: the state there, and on the way to it the root and the states of the decisions, the earliest first
pub record Place : Type 0 where
  pub state : State
  pub way : List State

abbrev pub root_place : State → Place
root_place root = record { state = root; way = root ∷ [] }

-- the places after a line at a place, the leading side of a decision first
abbrev pub places_after : Problem → Place → Line → List Place
places_after p x (Step rule) = record { state = after p x.state rule; way = x.way } ∷ []
places_after p x (Close rule) = []
places_after p x (Decide d first) =
    record { state = side p x.state d first; way = x.way ++ x.state ∷ [] }
    ∷ record { state = side p x.state d (not first); way = x.way ++ x.state ∷ [] } ∷ []

-- the line that a search takes in a state after k decisions: the least rule that fires; and where none does, the decision that word k of
-- the seed chooses
abbrev pub IsNext : Problem → ℕ → State → ℕ → Line → Type 0
IsNext p seed s k (Step rule) = IsLeast p s (Some rule) × (is_closing rule ≡ false)
IsNext p seed s k (Close rule) = IsLeast p s (Some rule) × (is_closing rule ≡ true)
IsNext p seed s k (Decide d first) = IsLeast p s None × (chosen p s (word seed k) ≡ Some (d, first))

-- after k decisions, each of these lines is the next at the first place that is left, and they leave these places
abbrev pub Leads : Problem → ℕ → ℕ → List Line → List Place → List Place → Type 0
Leads p seed k [] places left = places ≡ left
Leads p seed k (line ∷ lines) [] left = ⊥
Leads p seed k (line ∷ lines) (x ∷ places) left =
    IsNext p seed x.state k line × Leads p seed (k + decisions_in (line ∷ [])) lines (places_after p x line ++ places) left

-- the lines are a course of the problem and the seed
pub record IsCourse (p : Problem) (seed : ℕ) (lines : List Line) : Type 0 where
  pub root : State
  pub is_root : IsRoot p root
  pub left : List Place
  pub leads : Leads p seed 0 lines (root_place root ∷ []) left
