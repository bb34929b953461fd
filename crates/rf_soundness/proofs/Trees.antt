-- No graph concretises a state that a tree without a hole fits, and so none satisfies a problem that has valid lines.
use Rattle.std.proofs.Common.{◌≡◌, Bool, true, false, not, sym, ◌∙◌, true≢false}
use Rattle.std.proofs.lemmas.Bool.{and_parts}
use Rattle.rf_problem.specs.declared.problem.Problem.{Problem}
use Rattle.rf_graph.specs.Graph.{origin_of}
use Rattle.rf_graph.specs.declared.graph.Graph.{Graph}
use Rattle.rf_state.specs.State.{State}
use Rattle.rf_rules.specs.Claims.{Claims}
use Rattle.rf_rules.specs.Decisions.{side}
use Rattle.rf_rules.specs.Effects.{has_effect, is_close, is_ready}
use Rattle.rf_rules.specs.Rules.{after, fires, fits, instance_of, is_closing}
use Rattle.rf_rules.specs.declared.decision.Decision.{Decision}
use Rattle.rf_rules.specs.declared.effect.Effect.{Effect}
use Rattle.rf_rules.specs.declared.effect.Effect.TheVariants.{AtLeast, AtMost, Close, Keep, Lose, Merge}
use Rattle.rf_rules.specs.declared.rule.Rule.{Rule}
use Rattle.rf_rules.proofs.RuleLemmas.{closing_closes, effect_fits}
use Rattle.rf_tree.specs.Trees.{FitsTree, HasNoHole, Tree, choice, closing, effect, hole}
use Rattle.rf_placement.specs.Placement.{Concretises, IsConcretised, Placing}
use Rattle.rf_placement.proofs.Root.{root_is_concretised}
use Rattle.rf_soundness.specs.Laws.{ClosedStatesHaveNoGraph, ValidIsSound}
use Rattle.rf_soundness.proofs.Decisions.{decisions_lose_no_graph}
use Rattle.rf_soundness.proofs.Effects.{effects_lose_no_graph}
use Rattle.rf_soundness.proofs.Rules.{rules_are_sound}

-- a closing says that there is no graph
no_graph : (g : Graph) (h : Placing) (e : Effect) → is_close e ≡ true → Claims g h e → ⊥
no_graph g h Close closes claim = claim
no_graph g h (AtMost o n) closes claim = true≢false (sym closes)
no_graph g h (AtLeast o n) closes claim = true≢false (sym closes)
no_graph g h (Keep o set) closes claim = true≢false (sym closes)
no_graph g h (Lose o set) closes claim = true≢false (sym closes)
no_graph g h (Merge r a b v) closes claim = true≢false (sym closes)

module _ (p : Problem) (g : Graph) where
  module _ (s : State) (h : Placing) (c : Concretises p s g h) (rule : Rule) (f : fires p s rule ≡ true) where
    numbers : fits p s rule ≡ true
    numbers = (and_parts (fits p s rule) (is_ready s (instance_of p s rule)) f).0

    claims : Claims g h (instance_of p s rule).effect
    claims = rules_are_sound p rule s g h c numbers
        (and_parts (instance_of p s rule).holds (has_effect s (instance_of p s rule).effect) (and_parts (fits p s rule) (is_ready s (instance_of p s rule)) f).1).0

    after_rule : Concretises p (after p s rule) g h
    after_rule = effects_lose_no_graph p s g h (instance_of p s rule).effect c (effect_fits p s rule numbers) claims

    no_closing : is_closing rule ≡ true → ⊥
    no_closing closes = no_graph g h (instance_of p s rule).effect (closing_closes p s rule ∙ closes) claims

  -- whichever side leads, and whichever the graph is on
  either_side : (s : State) (d : Decision) (first there : Bool) → IsConcretised p (side p s d there) g
      → (IsConcretised p (side p s d first) g → ⊥) → (IsConcretised p (side p s d (not first)) g → ⊥) → ⊥
  either_side s d true true on leading other = leading on
  either_side s d true false on leading other = other on
  either_side s d false true on leading other = other on
  either_side s d false false on leading other = leading on

  closed : (t : Tree) (s : State) → FitsTree p s t → HasNoHole t → IsConcretised p s g → ⊥
  closed hole s fit whole c = whole
  closed (closing rule) s fit whole c = no_closing s c.0 c.1 rule fit.1 fit.0
  closed (effect rule t) s fit whole c = closed t (after p s rule) fit.2 whole (c.0, after_rule s c.0 c.1 rule fit.1)
  closed (choice d first t u) s fit whole c =
      let on = decisions_lose_no_graph p s g d c fit.0 in
      either_side s d first on.0 on.1 (closed t (side p s d first) fit.1 whole.0) (closed u (side p s d (not first)) fit.2 whole.1)

pub closed_states_have_no_graph : ClosedStatesHaveNoGraph
closed_states_have_no_graph p s t g fit whole c = closed p g t s fit whole c

pub valid_is_sound : ValidIsSound
valid_is_sound p lines v g sat = closed p g v.tree v.root v.fits v.whole (origin_of g, root_is_concretised p v.root g v.is_root sat)
