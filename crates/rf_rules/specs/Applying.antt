-- What an effect needs so that it can be done to a state: what it speaks of is there, and a bound on a count is at most the
-- greatest number of a problem text.
use Rattle.std.specs.Prelude.{◌≡◌, ◌<◌, true, None, Some, length}
use Rattle.rf_problem.specs.Valid.{IsSmall}
use Rattle.rf_problem.specs.declared.problem.Problem.{Problem}
use Rattle.rf_state.specs.State.{State}
use Rattle.rf_rules.specs.Rules.{fires, instance_of}
use Rattle.rf_rules.specs.declared.effect.Effect.{Effect}
use Rattle.rf_rules.specs.declared.effect.Effect.TheVariants.{Close, AtMost, AtLeast, Keep, Lose, Merge}
use Rattle.rf_rules.specs.declared.rule.Rule.{Rule}

abbrev pub IsApplicable : Problem → State → Effect → Type 0
IsApplicable p s Close = Unit {0}
IsApplicable p s (AtMost o n) = (o < length s.objects) × IsSmall (record { lo = 0; hi = Some n })
IsApplicable p s (AtLeast o n) = (o < length s.objects) × IsSmall (record { lo = n; hi = None })
IsApplicable p s (Keep o set) = o < length s.objects
IsApplicable p s (Lose o set) = o < length s.objects
IsApplicable p s (Merge r a b v) = (r < length p.references) × (a < length s.objects) × (b < length s.objects)

-- what a rule that fires does can be done
abbrev pub EffectIsApplicable : Type 0
EffectIsApplicable = (p : Problem) (s : State) (rule : Rule) → fires p s rule ≡ true → IsApplicable p s (instance_of p s rule).effect
