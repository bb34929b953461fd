-- Private: no public contract cites this.
-- The first of the lists of objects that were met so far at which a rule fires.
use Rattle.std.specs.Prelude.{◌≡◌, ◌⊎◌, ℕ, Bool, true, false, Option, None, Some, List}
use Rattle.std.specs.Cmp.Lexicographic.{slice_cmp}
use Rattle.std.specs.Ordering.{is_lt, nat_cmp}
use Rattle.std.specs.Option.{option_map}
use Rattle.rf_problem.specs.declared.problem.Problem.{Problem}
use Rattle.rf_state.specs.State.{State}
use Rattle.rf_rules.specs.Rules.{fires}
use Rattle.rf_rules.specs.declared.rule.Rule.{Rule}
use Rattle.rf_prop_broken.specs.Kinds.{rule_of}
use Rattle.rf_prop_broken.specs.declared.instances.Instances.{Instances}

-- whether the rule at a list of objects fires
abbrev pub fires_at : Problem → State → Instances → List ℕ → Bool
fires_at p s instances t = fires p s (rule_of instances t)

-- the rule at the best one
abbrev pub rule_of_best : Instances → Option (List ℕ) → Option Rule
rule_of_best instances best = option_map (rule_of instances) best

-- whether a list comes before the best one: none is before it where it is there and is not after any
abbrev pub comes_before : List ℕ → Option (List ℕ) → Bool
comes_before t None = true
comes_before t (Some first) = is_lt (slice_cmp nat_cmp t first)

-- a better one is one that passes, and after it the best one is not after any list that was met and passes
pub record Improves (passes : List ℕ → Bool) (Met : List ℕ → Type 0) (old new : Option (List ℕ)) : Type 0 where
  pub sound : (t : List ℕ) → new ≡ Some t → (passes t ≡ true) ⊎ (old ≡ Some t)
  pub still : (t : List ℕ) → comes_before t old ≡ false → comes_before t new ≡ false
  pub met : (t : List ℕ) → Met t → passes t ≡ true → comes_before t new ≡ false
