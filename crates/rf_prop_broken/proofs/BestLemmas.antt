-- The best list of objects becomes better, and is at the end the first at which the rule fires.
use Rattle.std.proofs.Common.{◌≡◌, ◌⊎◌, ℕ, Bool, true, false, Option, None, Some, List, [], refl, sym, ap, ◌∙◌, subst, inl, inr, nat_cmp, Less, Equal, Greater, true≢false}
use Rattle.std.specs.Bool.{then_some}
use Rattle.std.specs.Cmp.Lexicographic.{slice_cmp}
use Rattle.std.specs.Option.{option_map}
use Rattle.std.specs.Ordering.{is_lt}
use Rattle.std.specs.declared.cmp.Ordering.{Ordering}
use Rattle.std.proofs.lemmas.Bool.{both_ways, cases_Bool}
use Rattle.std.proofs.lemmas.Cmp.{nat_list_cmp_total, tied_itself}
use Rattle.std.proofs.lemmas.Option.{same_Some}
use Rattle.rf_finite.specs.Firsts.{IsFirstOf}
use Rattle.rf_finite.specs.Tuples.{IsTuple, first_tuple}
use Rattle.rf_finite.proofs.Tuples.{first_tuple-is_first, first_tuple-map}
use Rattle.rf_problem.specs.declared.problem.Problem.{Problem}
use Rattle.rf_state.specs.State.{State}
use Rattle.rf_pending.specs.Rows.{firing}
use Rattle.rf_prop_broken.specs.Best.{Improves, comes_before, fires_at, rule_of_best}
use Rattle.rf_prop_broken.specs.Kinds.{rule_of}
use Rattle.rf_prop_broken.specs.declared.instances.Instances.{Instances}

less-from : (o : Ordering) → is_lt o ≡ true → o ≡ Less
less-from Less h = refl
less-from Equal h = absurd (true≢false (sym h))
less-from Greater h = absurd (true≢false (sym h))

module _ (passes : List ℕ → Bool) where
  -- it stays as it is
  pub improves-kept : (Met : List ℕ → Type 0) (o : Option (List ℕ)) → ((t : List ℕ) → Met t → passes t ≡ true → comes_before t o ≡ false) → Improves passes Met o o
  improves-kept Met o h = record { sound = λ t e. inr e; still = λ t b. b; met = h }

  pub improves-none : (Met : List ℕ → Type 0) (o : Option (List ℕ)) → ((t : List ℕ) → Met t → passes t ≡ false) → Improves passes Met o o
  improves-none Met o h = improves-kept Met o (λ t m e. absurd (both_ways (passes t) (h t m) e))

  pub improves-later : (x : List ℕ) (o : Option (List ℕ)) → comes_before x o ≡ false → Improves passes (λ t. t ≡ x) o o
  improves-later x o h = improves-kept (λ t. t ≡ x) o (λ t e b. subst (λ y. comes_before y o ≡ false) (sym e) h)

  pub improves-failed : (x : List ℕ) (o : Option (List ℕ)) → passes x ≡ false → Improves passes (λ t. t ≡ x) o o
  improves-failed x o h = improves-none (λ t. t ≡ x) o (λ t e. subst (λ y. passes y ≡ false) (sym e) h)

  -- one that passes is taken
  before-more : (x t : List ℕ) (o : Option (List ℕ)) → comes_before x o ≡ true → comes_before t (Some x) ≡ true → comes_before t o ≡ true
  before-more x t None h b = refl
  before-more x t (Some y) h b =
      ap is_lt (nat_list_cmp_total.trans t x y (less-from (slice_cmp nat_cmp t x) b) (less-from (slice_cmp nat_cmp x y) h))

  pub improves-taken : (x : List ℕ) (o : Option (List ℕ)) → comes_before x o ≡ true → passes x ≡ true → Improves passes (λ t. t ≡ x) o (Some x)
  improves-taken x o h b = record {
    sound = λ t e. inl (subst (λ y. passes y ≡ true) (same_Some x t e) b);
    still = λ t f. elim (cases_Bool (comes_before t (Some x))) [
      | inl less ↦ absurd (both_ways (comes_before t o) f (before-more x t o h less))
      | inr later ↦ later
    ];
    met = λ t e g. subst (λ y. comes_before y (Some x) ≡ false) (sym e) (ap is_lt (tied_itself nat_list_cmp_total x));
  }

  -- one after the other
  pub improves-then : (A B : List ℕ → Type 0) (o m n : Option (List ℕ)) → Improves passes A o m → Improves passes B m n → Improves passes (λ t. A t ⊎ B t) o n
  improves-then A B o m n first second = record {
    sound = λ t e. elim (second.sound t e) [ inl b ↦ inl b | inr was ↦ first.sound t was ];
    still = λ t b. second.still t (first.still t b);
    met = λ t h b. elim h [ inl a ↦ second.still t (first.met t a b) | inr c ↦ second.met t c b ];
  }

  pub improves-weaker : (A B : List ℕ → Type 0) (o n : Option (List ℕ)) → ((t : List ℕ) → B t → passes t ≡ true → A t) → Improves passes A o n → Improves passes B o n
  improves-weaker A B o n from h = record { sound = h.sound; still = h.still; met = λ t m b. h.met t (from t m b) b }

  -- the best one passes where there was none
  pub passes-best : (A : List ℕ → Type 0) (n : Option (List ℕ)) (t : List ℕ) → Improves passes A None n → n ≡ Some t → passes t ≡ true
  passes-best A n t h e = elim (h.sound t e) [ inl b ↦ b | inr was ↦ absurd (None-some t was) ]
    where
      None-some : (x : List ℕ) → None ≡ Some x → ⊥
      None-some x was = cc

  pub first-from_best : (n k : ℕ) (A : List ℕ → Type 0) (o : Option (List ℕ)) → Improves passes A None o → ((t : List ℕ) → passes t ≡ true → A t)
      → ((t : List ℕ) → passes t ≡ true → IsTuple n k t) → IsFirstOf (slice_cmp nat_cmp) (λ t. IsTuple n k t × (passes t ≡ true)) o
  first-from_best n k A None h all fit = λ t m. true≢false (h.met t (all t m.1) m.1)
  first-from_best n k A (Some x) h all fit =
      let b = passes-best A (Some x) x h refl in
      record { passes = (fit x b, b); first = λ t less m. both_ways (comes_before t (Some x)) (h.met t (all t m.1) m.1) (ap is_lt less) }

some-map : {A B : Type 0} (f : A → B) (b : Bool) (x : A) → option_map f (then_some b x) ≡ then_some b (f x)
some-map f true x = refl
some-map f false x = refl

-- its rule is the first that fires
pub first_tuple-from_best : (p : Problem) (s : State) (instances : Instances) (n k : ℕ) (A : List ℕ → Type 0) (o : Option (List ℕ)) → Improves (fires_at p s instances) A None o
    → ((t : List ℕ) → fires_at p s instances t ≡ true → A t) → ((t : List ℕ) → fires_at p s instances t ≡ true → IsTuple n k t)
    → rule_of_best instances o ≡ first_tuple n k [] (λ t. firing p s (rule_of instances t))
first_tuple-from_best p s instances n k A o h all fit =
    let passes = fires_at p s instances in
    let found : first_tuple n k [] (λ t. then_some (passes t) t) ≡ o = (first_tuple-is_first n k passes o).1 (first-from_best passes n k A o h all fit) in
    ap (option_map (rule_of instances)) (sym found)
    ∙ (sym (first_tuple-map (rule_of instances) n k [] (λ t. then_some (passes t) t))
    ∙ ap (first_tuple n k []) (λ i t. some-map (rule_of instances) (passes t) t i))
