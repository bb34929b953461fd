-- What was gathered, after more tuples were met.
use Rattle.std.proofs.Common.{◌≡◌, ◌≢◌, Bool, true, false, ℕ, ◌<◌, Option, Some, None, List, [], ◌∷◌, ◌⊎◌, refl, sym, ap, ◌∙◌, subst, inl, inr, arith, Less, Equal, Greater, nat_cmp, slice_index, true≢false}
use Rattle.std.specs.Cmp.{nat_cmp_is}
use Rattle.std.specs.Cmp.Lexicographic.{slice_cmp}
use Rattle.std.specs.Ordering.{ordering_reverse, ordering_then}
use Rattle.std.specs.declared.cmp.Ordering.{Ordering}
use Rattle.std.proofs.lemmas.Cmp.{nat_list_cmp_total}
use Rattle.std.proofs.lemmas.Option.{none-some, same_Some}
use Rattle.rf_finite.specs.Firsts.{IsFirstOf, earlier}
use Rattle.rf_values.specs.declared.truth.Truth.{Truth}
use Rattle.rf_values.specs.declared.truth.Truth.TheVariants.{False}
use Rattle.rf_evaluate.specs.Gathering.{Column, Either, HasGathered, IsFirst, IsNotAfter, tells}
use Rattle.rf_evaluate.proofs.Conjunctions.{tells-Either}

module _ {G : Type 0} (has covers : G → List ℕ → Column → Type 0) where
  -- all that is met is covered already
  pub gathered-covered : (P : List ℕ → Column → Type 0) (a : G) → ((t : List ℕ) (c : Column) → P t c → covers a t c) → HasGathered has covers P a a
  gathered-covered P a all = record { met = all; still = λ t c d. d; no_more = λ t c h. inl h }

  -- nothing is met
  pub gathered-none : (P : List ℕ → Column → Type 0) (a : G) → ((t : List ℕ) (c : Column) → P t c → ⊥) → HasGathered has covers P a a
  gathered-none P a none = gathered-covered P a (λ t c p. absurd (none t c p))

  -- the same is met
  pub gathered-same : (P Q : List ℕ → Column → Type 0) (a b : G) → ((t : List ℕ) (c : Column) → P t c → Q t c) → ((t : List ℕ) (c : Column) → Q t c → P t c)
      → HasGathered has covers P a b → HasGathered has covers Q a b
  gathered-same P Q a b to from h = record {
    met = λ t c q. h.met t c (from t c q);
    still = h.still;
    no_more = λ t c here. elim (h.no_more t c here) [ inl before ↦ inl before | inr p ↦ inr (to t c p) ];
  }

  -- more is met
  pub gathered-then : (P Q : List ℕ → Column → Type 0) (a b z : G) → HasGathered has covers P a b → HasGathered has covers Q b z
      → HasGathered has covers (λ t c. P t c ⊎ Q t c) a z
  gathered-then P Q a b z first then = record {
    met = λ t c m. elim m [ inl p ↦ then.still t c (first.met t c p) | inr q ↦ then.met t c q ];
    still = λ t c covered. then.still t c (first.still t c covered);
    no_more = λ t c here. elim (then.no_more t c here) [
      | inl there ↦ elim (first.no_more t c there) [ inl before ↦ inl before | inr p ↦ inr (inl p) ]
      | inr q ↦ inr (inr q)
    ];
  }

abbrev order_code : Ordering → Bool
order_code Less = true
order_code Equal = false
order_code Greater = false

Less-ne_Greater : Less ≡ Greater → ⊥
Less-ne_Greater e = absurd (true≢false (ap order_code e))

Less-ne_Equal : Less ≡ Equal → ⊥
Less-ne_Equal e = absurd (true≢false (ap order_code e))

-- nothing comes before itself
not_before_itself : (t : List ℕ) → slice_cmp nat_cmp t t ≡ Less → ⊥
not_before_itself t e = Less-ne_Greater (sym e ∙ (nat_list_cmp_total.antisymm t t ∙ ap ordering_reverse e))

-- a tuple comes before those whose first number is greater
pub IsNotAfter-first : (t u : List ℕ) (c : Column) → slice_index u 0 < slice_index t 0 → IsNotAfter (Some u) t c
IsNotAfter-first [] u c l e = absurd (omega arith)
IsNotAfter-first (x ∷ t) [] c l e = Less-ne_Greater (sym e)
IsNotAfter-first (x ∷ t) (y ∷ u) c l e = Less-ne_Greater (sym e ∙ ap (λ o. ordering_then o (slice_cmp nat_cmp t u)) (sym (nat_cmp_is x y Greater l)))

-- what is told of one tuple by its value
abbrev pub IsTold : List ℕ → Truth → List ℕ → Column → Type 0
IsTold u value t c = (t ≡ u) × (tells c value ≡ true)

-- the first tuple, after one more was met
pub gathered-earlier : (first : Option (List ℕ)) (u : List ℕ) (value : Truth) → value ≢ False
    → HasGathered IsFirst IsNotAfter (IsTold u value) first (earlier (slice_cmp nat_cmp) first (Some u))
gathered-earlier None u value some = record {
  met = λ t c e less. not_before_itself u (subst (λ y. slice_cmp nat_cmp y u ≡ Less) e.0 less);
  still = λ t c never. absurd never;
  no_more = λ t c e. inr (sym (same_Some u t e.0), ap (λ d. tells d value) e.1 ∙ tells-Either value some);
}
gathered-earlier (Some x) u value some = go (slice_cmp nat_cmp u x) refl
  where
    go : (o : Ordering) → slice_cmp nat_cmp u x ≡ o → HasGathered IsFirst IsNotAfter (IsTold u value) (Some x) (earlier (slice_cmp nat_cmp) (Some x) (Some u))
    go Less e = rw e record {
      met = λ t c same less. not_before_itself u (subst (λ y. slice_cmp nat_cmp y u ≡ Less) same.0 less);
      still = λ t c after less. after (nat_list_cmp_total.trans t u x less e);
      no_more = λ t c same. inr (sym (same_Some u t same.0), ap (λ d. tells d value) same.1 ∙ tells-Either value some);
    }
    go Equal e = rw e record {
      met = λ t c same less. Less-ne_Equal (sym (subst (λ y. slice_cmp nat_cmp y x ≡ Less) same.0 less) ∙ e);
      still = λ t c after. after;
      no_more = λ t c same. inl same;
    }
    go Greater e = rw e record {
      met = λ t c same less. Less-ne_Greater (sym (subst (λ y. slice_cmp nat_cmp y x ≡ Less) same.0 less) ∙ e);
      still = λ t c after. after;
      no_more = λ t c same. inl same;
    }

-- of what was met with nothing before, the first is there
pub IsFirstOf-from_gathered : (P : List ℕ → Column → Type 0) (Q : List ℕ → Type 0) (first : Option (List ℕ))
    → ((t : List ℕ) → P t Either → Q t) → ((t : List ℕ) → Q t → P t Either)
    → HasGathered IsFirst IsNotAfter P None first → IsFirstOf (slice_cmp nat_cmp) Q first
IsFirstOf-from_gathered P Q None to from h = λ t q. h.met t Either (from t q)
IsFirstOf-from_gathered P Q (Some x) to from h = record {
  passes = elim (h.no_more x Either (refl, refl)) [ inl e ↦ absurd (none-some x e.0) | inr p ↦ to x p ];
  first = λ t less q. h.met t Either (from t q) less;
}
