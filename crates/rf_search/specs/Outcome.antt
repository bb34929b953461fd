-- What a search ends with, and in which state.
use Rattle.std.specs.Prelude.{◌≡◌, ℕ, ◌≤◌, List, [], ◌∷◌, ◌++◌}
use Rattle.rf_problem.specs.declared.problem.Problem.{Problem}
use Rattle.rf_state.specs.State.{IsRoot, State}
use Rattle.rf_rules.specs.declared.rule.Rule.{Rule}
use Rattle.rf_tree.specs.Pending.{decisions_in}
use Rattle.rf_tree.specs.Saturated.{IsFinal, IsSaturated}
use Rattle.rf_tree.specs.declared.line.Line.{Line}
use Rattle.rf_tree.specs.declared.line.Line.TheVariants.{Close}
use Rattle.rf_tree.specs.declared.outcome.Outcome.{Outcome}
use Rattle.rf_tree.specs.declared.outcome.Outcome.TheVariants.{Found, Refuted, Unfinished}
use Rattle.rf_final.specs.GraphOf.{graph_of}
use Rattle.rf_search.specs.Course.{IsNext, Leads, Place, root_place}

-- some lines of the course lead to a final state, with at most `budget` decisions, and the graph is that of this state
pub record EndsFound (p : Problem) (seed budget : ℕ) (root s : State) (way : List State) : Type 0 where
  pub lines : List Line
  pub rest : List Place
  pub leads : Leads p seed 0 lines (root_place root ∷ []) (record { state = s; way = way } ∷ rest)
  pub final : IsFinal p s
  pub few : decisions_in lines ≤ budget

-- the lines are the course, with at most `budget` decisions, and the last of them closes the last place that is left
pub record EndsRefuted (p : Problem) (seed budget : ℕ) (root : State) (lines : List Line) (s : State) (way : List State) : Type 0 where
  pub before : List Line
  pub rule : Rule
  pub last : lines ≡ before ++ Close rule ∷ []
  pub leads : Leads p seed 0 before (root_place root ∷ []) (record { state = s; way = way } ∷ [])
  pub closed : IsNext p seed s (decisions_in before) (Close rule)
  pub few : decisions_in before ≤ budget

-- the lines are the course, with exactly `budget` decisions, to a state in which no rule fires and some decision is allowed
pub record EndsUnfinished (p : Problem) (seed budget : ℕ) (root : State) (lines : List Line) (s : State) (way : List State) : Type 0 where
  pub rest : List Place
  pub leads : Leads p seed 0 lines (root_place root ∷ []) (record { state = s; way = way } ∷ rest)
  pub saturated : IsSaturated p s
  pub undecided : IsFinal p s → ⊥
  pub spent : decisions_in lines ≡ budget

-- from this root a search ends with this outcome in state s, where `way` are the root and the states of the decisions on the way to s
abbrev pub Ends : Problem → ℕ → ℕ → State → Outcome → State → List State → Type 0
Ends p seed budget root (Found g) s way = EndsFound p seed budget root s way × (g ≡ graph_of p s)
Ends p seed budget root (Refuted lines) s way = EndsRefuted p seed budget root lines s way
Ends p seed budget root (Unfinished lines) s way = EndsUnfinished p seed budget root lines s way

-- the outcome of a problem, a seed and a budget
pub record IsOutcome (p : Problem) (seed budget : ℕ) (outcome : Outcome) : Type 0 where
  pub root : State
  pub is_root : IsRoot p root
  pub state : State
  pub way : List State
  pub ends : Ends p seed budget root outcome state way
