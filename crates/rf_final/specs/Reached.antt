-- States that rules and decisions lead to from the root.
use Rattle.std.specs.Prelude.{◌≡◌, Bool, true, false}
use Rattle.rf_problem.specs.declared.problem.Problem.{Problem}
use Rattle.rf_state.specs.State.{IsRoot, State}
use Rattle.rf_rules.specs.Decisions.{allowed, side}
use Rattle.rf_rules.specs.Rules.{after, fires, is_closing}
use Rattle.rf_rules.specs.declared.decision.Decision.{Decision}
use Rattle.rf_rules.specs.declared.rule.Rule.{Rule}

-- the root is reached; so is the state after a rule that fires and is no closing, and each side of an allowed decision
pub data IsReached (p : Problem) : State → Type 0 where
  at_root : (s : State) → IsRoot p s → IsReached p s
  by_rule : (s : State) (rule : Rule) → IsReached p s → fires p s rule ≡ true → is_closing rule ≡ false → IsReached p (after p s rule)
  by_decision : (s : State) (d : Decision) (first : Bool) → IsReached p s → allowed p s d ≡ true → IsReached p (side p s d first)
