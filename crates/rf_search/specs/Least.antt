-- The least rule of all that fires.
use Rattle.std.specs.Prelude.{◌≡◌, true, Option}
use Rattle.rf_finite.specs.Firsts.{IsFirstOf}
use Rattle.rf_problem.specs.declared.problem.Problem.{Problem}
use Rattle.rf_state.specs.State.{State}
use Rattle.rf_rules.specs.Rules.{fires, rule_cmp}
use Rattle.rf_rules.specs.declared.rule.Rule.{Rule}

-- it is the least rule that fires, or none fires
abbrev pub IsLeast : Problem → State → Option Rule → Type 0
IsLeast p s = IsFirstOf rule_cmp (λ rule. fires p s rule ≡ true)
