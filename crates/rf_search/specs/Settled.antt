-- Rules applied one after another, each the least that fires where it stands.
use Rattle.std.specs.Prelude.{◌≡◌, Bool, true, false, None, Some, List, [], ◌∷◌, ◌++◌}
use Rattle.rf_problem.specs.declared.problem.Problem.{Problem}
use Rattle.rf_state.specs.State.{State}
use Rattle.rf_rules.specs.Rules.{after, is_closing}
use Rattle.rf_rules.specs.declared.rule.Rule.{Rule}
use Rattle.rf_search.specs.Least.{IsLeast}
use Rattle.rf_tree.specs.declared.line.Line.{Line}
use Rattle.rf_tree.specs.declared.line.Line.TheVariants.{Close, Decide, Step}

-- these lines lead from s to t: each is a step by the least rule that fires, which is no closing
abbrev pub Steps : Problem → State → List Line → State → Type 0
Steps p s [] t = t ≡ s
Steps p s (Step rule ∷ lines) t = IsLeast p s (Some rule) × (is_closing rule ≡ false) × Steps p (after p s rule) lines t
Steps p s (Close rule ∷ lines) t = ⊥
Steps p s (Decide d first ∷ lines) t = ⊥

-- after some lines a closing was appended, which is the least rule that fires in t; or nothing, and none fires in t
abbrev pub IsSettled : Problem → State → List Line → List Line → Bool → Type 0
IsSettled p t before lines true = (rule : Rule) × (lines ≡ before ++ Close rule ∷ []) × IsLeast p t (Some rule) × (is_closing rule ≡ true)
IsSettled p t before lines false = (lines ≡ before) × IsLeast p t None

-- to `before` the steps from s to t were appended, and then a closing, or, as no rule fires there, nothing
pub record Settles (p : Problem) (s : State) (before lines : List Line) (t : State) (closed : Bool) : Type 0 where
  pub steps : List Line
  pub reached : Steps p s steps t
  pub settled : IsSettled p t (before ++ steps) lines closed
