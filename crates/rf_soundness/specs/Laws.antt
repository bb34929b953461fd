-- What holds of rules, decisions, trees and lines: none of them loses a graph.
use Rattle.std.specs.Prelude.{◌≡◌, Bool, true, List}
use Rattle.rf_problem.specs.declared.problem.Problem.{Problem}
use Rattle.rf_graph.specs.Violations.{Sat}
use Rattle.rf_graph.specs.declared.graph.Graph.{Graph}
use Rattle.rf_state.specs.State.{State}
use Rattle.rf_rules.specs.Claims.{Claims}
use Rattle.rf_rules.specs.Decisions.{allowed, side}
use Rattle.rf_rules.specs.Effects.{after_effect}
use Rattle.rf_rules.specs.Laws.{FitsEffect}
use Rattle.rf_rules.specs.declared.decision.Decision.{Decision}
use Rattle.rf_rules.specs.declared.effect.Effect.{Effect}
use Rattle.rf_rules.specs.declared.rule.Rule.{Rule}
use Rattle.rf_tree.specs.Lines.{Valid}
use Rattle.rf_tree.specs.Trees.{FitsTree, HasNoHole, Tree}
use Rattle.rf_tree.specs.declared.line.Line.{Line}
use Rattle.rf_placement.specs.Placement.{Concretises, IsConcretised, Placing}
use Rattle.rf_soundness.specs.SoundRules.{IsSoundRule}

-- each rule is sound
abbrev pub RulesAreSound : Type 0
RulesAreSound = (p : Problem) (rule : Rule) → IsSoundRule p rule

-- where what an effect says is so of a graph that concretises a state, the graph concretises the state after the effect, by the
-- same placing
abbrev pub EffectsLoseNoGraph : Type 0
EffectsLoseNoGraph =
    (p : Problem) (s : State) (g : Graph) (placing : Placing) (e : Effect) → Concretises p s g placing → FitsEffect s e
    → Claims g placing e → Concretises p (after_effect s e) g placing

-- a graph that concretises a state concretises one of the sides of each decision that is allowed there
abbrev pub DecisionsLoseNoGraph : Type 0
DecisionsLoseNoGraph =
    (p : Problem) (s : State) (g : Graph) (d : Decision) → IsConcretised p s g → allowed p s d ≡ true
    → (first : Bool) × IsConcretised p (side p s d first) g

-- no graph concretises a state that a tree without a hole fits
abbrev pub ClosedStatesHaveNoGraph : Type 0
ClosedStatesHaveNoGraph =
    (p : Problem) (s : State) (tree : Tree) (g : Graph) → FitsTree p s tree → HasNoHole tree → IsConcretised p s g → ⊥

-- no graph satisfies a problem that has valid lines
abbrev pub ValidIsSound : Type 0
ValidIsSound = (p : Problem) (lines : List Line) → Valid p lines → (g : Graph) → Sat p g → ⊥
