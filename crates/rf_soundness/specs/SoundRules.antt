-- When a rule loses no graph.
use Rattle.std.specs.Prelude.{◌≡◌, true}
use Rattle.rf_problem.specs.declared.problem.Problem.{Problem}
use Rattle.rf_graph.specs.declared.graph.Graph.{Graph}
use Rattle.rf_state.specs.State.{State}
use Rattle.rf_rules.specs.Claims.{Claims}
use Rattle.rf_rules.specs.Rules.{fits, instance_of}
use Rattle.rf_rules.specs.declared.rule.Rule.{Rule}
use Rattle.rf_placement.specs.Placement.{Concretises, Placing}

-- a rule is sound: in each state where its numbers are in range and its condition holds, what its effect says is so of each graph
-- that concretises the state
abbrev pub IsSoundRule : Problem → Rule → Type 0
IsSoundRule p rule =
    (s : State) (g : Graph) (placing : Placing) → Concretises p s g placing
    → fits p s rule ≡ true → (instance_of p s rule).holds ≡ true → Claims g placing (instance_of p s rule).effect
