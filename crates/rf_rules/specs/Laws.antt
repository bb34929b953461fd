-- What holds of rules, effects and decisions.
use Rattle.std.specs.Prelude.{◌≡◌, ◌≢◌, ◌↔◌, ◌<◌, Bool, true, false, None, Some, length}
use Rattle.std.specs.Cmp.{IsTotalOrder}
use Rattle.std.specs.FinMap.{IsAntisymmetric}
use Rattle.std.specs.FinSet.{difference}
use Rattle.rf_problem.specs.declared.problem.Problem.{Problem}
use Rattle.rf_state.specs.Laws.{AreCandidatesKept, IsCountNarrowed}
use Rattle.rf_state.specs.State.{State, merged_at, object_of}
use Rattle.rf_rules.specs.Decisions.{allowed, side}
use Rattle.rf_rules.specs.Effects.{after_effect, has_effect, is_close}
use Rattle.rf_rules.specs.Rules.{Fires, fires, fits, instance_of, is_closing, rule_cmp}
use Rattle.rf_rules.specs.declared.decision.Decision.{Decision}
use Rattle.rf_rules.specs.declared.effect.Effect.{Effect}
use Rattle.rf_rules.specs.declared.effect.Effect.TheVariants.{Close, AtMost, AtLeast, Keep, Lose, Merge}
use Rattle.rf_rules.specs.declared.rule.Rule.{Rule}

-- the object whose count or candidates an effect changes is there
abbrev pub FitsEffect : State → Effect → Type 0
FitsEffect s Close = Unit {0}
FitsEffect s (AtMost o n) = o < length s.objects
FitsEffect s (AtLeast o n) = o < length s.objects
FitsEffect s (Keep o set) = o < length s.objects
FitsEffect s (Lose o set) = o < length s.objects
FitsEffect s (Merge r a b v) = Unit {0}

-- an effect that is no closing has an effect exactly where the state after it is another
abbrev pub EffectIsChange : Type 0
EffectIsChange = (s : State) (e : Effect) → FitsEffect s e → is_close e ≡ false → (has_effect s e ≡ true) ↔ (after_effect s e ≢ s)

-- a rule fires exactly where its numbers are in range, what it asks for holds, and it is a closing or the state after it is another
abbrev pub FiresIsInWords : Type 0
FiresIsInWords = (p : Problem) (s : State) (rule : Rule) → (fires p s rule ≡ true) ↔ Fires p s rule

-- what an effect changes: nothing, one count, the candidates of one object, or what was added of one edge
abbrev pub ChangesOne : Problem → State → Effect → Type 0
ChangesOne p s Close = after_effect s Close ≡ s
ChangesOne p s (AtMost o n) = IsCountNarrowed p s o (record { lo = 0; hi = Some n }) (after_effect s (AtMost o n))
ChangesOne p s (AtLeast o n) = IsCountNarrowed p s o (record { lo = n; hi = None }) (after_effect s (AtLeast o n))
ChangesOne p s (Keep o set) = AreCandidatesKept p s o set (after_effect s (Keep o set))
ChangesOne p s (Lose o set) = AreCandidatesKept p s o (difference (object_of s o).candidates set) (after_effect s (Lose o set))
ChangesOne p s (Merge r a b v) = after_effect s (Merge r a b v) ≡ merged_at s r a b v

abbrev pub EffectChangesOne : Type 0
EffectChangesOne = (p : Problem) (s : State) (e : Effect) → FitsEffect s e → ChangesOne p s e

-- a rule whose numbers are in range does something to what is there
abbrev pub EffectFits : Type 0
EffectFits = (p : Problem) (s : State) (rule : Rule) → fits p s rule ≡ true → FitsEffect s (instance_of p s rule).effect

-- the closings are the rules that close
abbrev pub ClosingCloses : Type 0
ClosingCloses = (p : Problem) (s : State) (rule : Rule) → is_close (instance_of p s rule).effect ≡ is_closing rule

-- the order of rules is a total one, and two of one place are the same
abbrev pub RulesAreOrdered : Type 0
RulesAreOrdered = IsTotalOrder rule_cmp × IsAntisymmetric rule_cmp

-- each side of an allowed decision is another state
abbrev pub SidesDiffer : Type 0
SidesDiffer = (p : Problem) (s : State) (d : Decision) (first : Bool) → allowed p s d ≡ true → side p s d first ≢ s
