-- States in which nothing is left to be done.
use Rattle.std.specs.Prelude.{◌≡◌, false}
use Rattle.rf_problem.specs.declared.problem.Problem.{Problem}
use Rattle.rf_state.specs.State.{State}
use Rattle.rf_rules.specs.Decisions.{allowed}
use Rattle.rf_rules.specs.Rules.{fires}
use Rattle.rf_rules.specs.declared.decision.Decision.{Decision}
use Rattle.rf_rules.specs.declared.rule.Rule.{Rule}

-- no rule fires
abbrev pub IsSaturated : Problem → State → Type 0
IsSaturated p s = (rule : Rule) → fires p s rule ≡ false

-- and no decision is allowed: all counts, classes and edges are settled
pub record IsFinal (p : Problem) (s : State) : Type 0 where
  pub saturated : IsSaturated p s
  pub decided : (d : Decision) → allowed p s d ≡ false
