-- A row of which no edge may be there closes no cycle.
use Rattle.std.proofs.Common.{◌≡◌, ◌<◌, ℕ, Bool, true, false, ◌&&◌, ◌||◌, ◌==◌, None, length, refl}
use Rattle.rf_finite.proofs.Range.{first_below-none}
use Rattle.rf_problem.specs.Contained.{is_containing}
use Rattle.rf_problem.specs.declared.problem.Problem.{Problem}
use Rattle.rf_state.specs.State.{State}
use Rattle.rf_rules.specs.Containment.{acyclic, leads}
use Rattle.rf_rules.specs.Rules.{least_object}
use Rattle.rf_rules.specs.Words.{is_one, may}
use Rattle.rf_rules.specs.declared.rule.Rule.TheVariants.{Acyclic}
use Rattle.rf_rules.proofs.ContainmentLemmas.{fires-not}

neither : (a b : Bool) → (a && (false && b)) ≡ false
neither true b = refl
neither false b = refl

pub none_acyclic : (p : Problem) (s : State) (r a : ℕ) → ((b : ℕ) → b < length s.objects → may p s r a b ≡ false)
    → least_object p s (Acyclic r a) ≡ None
none_acyclic p s r a none = first_below-none (length s.objects) _ (λ b l. let fails = fires-not p s (Acyclic r a b) (holds-not b (none b l)) in rw fails refl)
  where
    holds-not : (b : ℕ) → may p s r a b ≡ false → (acyclic p s r a b).holds ≡ false
    holds-not b off = rw off (neither (is_containing p r) ((a == b && is_one s a) || leads p s b a))
