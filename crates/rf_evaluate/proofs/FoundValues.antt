-- The values that a search gathers.
use Rattle.std.proofs.Common.{◌≡◌, ◌≢◌, Bool, true, false, cond, ◌||◌, ℕ, Option, Some, None, List, [], length, ◌⊎◌, refl, sym, ap, ap₂, ◌∙◌, inl, inr, nat_cmp, true≢false, unwrap_or}
use Rattle.std.specs.BTreeMap.{BTreeMap, IsOrdered, get, is_at}
use Rattle.std.specs.Cmp.{Equal-is, both_ways}
use Rattle.std.specs.Cmp.Lexicographic.{slice_cmp}
use Rattle.std.specs.List.{Contains}
use Rattle.std.specs.Map.{lookup}
use Rattle.std.specs.Option.{is_some}
use Rattle.std.specs.Ordering.{is_eq}
use Rattle.std.proofs.Math.Bool.{or-true}
use Rattle.std.proofs.lemmas.Bool.{cases_Bool, or_cases}
use Rattle.std.proofs.lemmas.Cmp.{nat_list_cmp_total, tied_itself}
use Rattle.std.proofs.lemmas.Map.Entries.{btree_map_get_place, place_from_lookup}
use Rattle.std.proofs.lemmas.Map.Lookups.{exact_bytes}
use Rattle.std.proofs.lemmas.Option.{get_or_from_slice_get, slice_get_read, slice_get_within}
use Rattle.rf_values.specs.Truth.{disjunction, may, must}
use Rattle.rf_values.specs.declared.truth.Truth.{Truth}
use Rattle.rf_values.specs.declared.truth.Truth.TheVariants.{False}
use Rattle.rf_problem.specs.declared.symbol.Symbol.TheVariants.{Predicate as Defined}
use Rattle.rf_evaluate.specs.Gathering.{AreKeeping, Column, Must, May, Either, HasGathered, keeps, tells, truth_at}
use Rattle.rf_evaluate.specs.Hunts.{IsMet}
use Rattle.rf_evaluate.specs.Known.{Known, value_of}
use Rattle.rf_evaluate.specs.Search.{AreValuesFound, IsFound}
use Rattle.rf_evaluate.proofs.Conjunctions.{same-pair, tells-Either, tells-disjunction, tells-ne_False}
use Rattle.rf_evaluate.proofs.Gathered.{IsTold}

abbrev pub Values : Type 0
Values = BTreeMap (List ℕ) Truth

-- the values, after a truth was added to that of a tuple
module _ (old new : Values) (u : List ℕ) (value : Truth)
    (put : (q : List ℕ) → get (slice_cmp nat_cmp) new q ≡ cond (is_eq (slice_cmp nat_cmp u q)) (Some (disjunction (truth_at old u) value)) (get (slice_cmp nat_cmp) old q)) where
  keeps-put : value ≢ False → (c : Column) → keeps new u c ≡ (keeps old u c || tells c value)
  keeps-put some c = all c
    where
      here : get (slice_cmp nat_cmp) new u ≡ Some (disjunction (truth_at old u) value)
      here = put u ∙ ap (λ o. cond (is_eq o) (Some (disjunction (truth_at old u) value)) (get (slice_cmp nat_cmp) old u)) (tied_itself nat_list_cmp_total u)

      all : (c : Column) → keeps new u c ≡ (keeps old u c || tells c value)
      all Must = ap (λ o. must (unwrap_or o False)) here ∙ tells-disjunction Must (truth_at old u) value
      all May = ap (λ o. may (unwrap_or o False)) here ∙ tells-disjunction May (truth_at old u) value
      all Either = ap is_some here ∙ sym (ap (λ b. keeps old u Either || b) (tells-Either value some) ∙ or-true (keeps old u Either))

  keeps-other : (t : List ℕ) → is_eq (slice_cmp nat_cmp u t) ≡ false → (c : Column) → keeps new t c ≡ keeps old t c
  keeps-other t apart c = all c
    where
      there : get (slice_cmp nat_cmp) new t ≡ get (slice_cmp nat_cmp) old t
      there = put t ∙ ap (λ b. cond b (Some (disjunction (truth_at old u) value)) (get (slice_cmp nat_cmp) old t)) apart

      all : (c : Column) → keeps new t c ≡ keeps old t c
      all Must = ap (λ o. must (unwrap_or o False)) there
      all May = ap (λ o. may (unwrap_or o False)) there
      all Either = ap is_some there

  cases_same : (t : List ℕ) → (t ≡ u) ⊎ (is_eq (slice_cmp nat_cmp u t) ≡ false)
  cases_same t = elim (cases_Bool (is_eq (slice_cmp nat_cmp u t))) [
    | inl e ↦ inl (sym (exact_bytes u t ((Equal-is (slice_cmp nat_cmp u t)).0 e)))
    | inr apart ↦ inr apart
  ]

  pub gathered-value : value ≢ False → HasGathered AreKeeping AreKeeping (IsTold u value) old new
  gathered-value some = record {
    met = λ t c told. ap (λ s. keeps new s c) told.0 ∙ (keeps-put some c ∙ (ap (λ b. keeps old u c || b) told.1 ∙ or-true (keeps old u c)));
    still = λ t c there. elim (cases_same t) [
      | inl e ↦ ap (λ s. keeps new s c) e ∙ (keeps-put some c ∙ ap (λ b. b || tells c value) (ap (λ s. keeps old s c) (sym e) ∙ there))
      | inr apart ↦ keeps-other t apart c ∙ there
    ];
    no_more = λ t c here. elim (cases_same t) [
      | inl e ↦ elim (or_cases (keeps old u c) (tells c value) (sym (ap (λ s. keeps new s c) e ∙ keeps-put some c) ∙ here)) [
        | inl before ↦ inl (ap (λ s. keeps old s c) e ∙ before)
        | inr told ↦ inr (e, told)
      ]
      | inr apart ↦ inl (sym (keeps-other t apart c) ∙ here)
    ];
  }

-- nothing is kept where there are no values
keeps-none : (values : Values) → values.entries ≡ [] → (t : List ℕ) (c : Column) → keeps values t c ≡ false
keeps-none values none t c = all c
  where
    no_value : get (slice_cmp nat_cmp) values t ≡ None
    no_value = ap (lookup (λ q. is_eq (slice_cmp nat_cmp t q))) none

    all : (c : Column) → keeps values t c ≡ false
    all Must = ap (λ o. must (unwrap_or o False)) no_value
    all May = ap (λ o. may (unwrap_or o False)) no_value
    all Either = ap is_some no_value

-- a predicate is met at a tuple exactly where it is found there
pub IsFound-from_IsMet : (k : Known) (q : ℕ) (passes : List ℕ → Bool) (t : List ℕ) (c : Column) → IsMet k q passes t c → IsFound k q passes t
IsFound-from_IsMet k q passes t c m = record { tuple = m.tuple; passed = m.passed; value = tells-ne_False c (value_of k (Defined q) t) m.told }

pub IsMet-from_IsFound : (k : Known) (q : ℕ) (passes : List ℕ → Bool) (t : List ℕ) → IsFound k q passes t → IsMet k q passes t Either
IsMet-from_IsFound k q passes t f = record { tuple = f.tuple; passed = f.passed; told = tells-Either (value_of k (Defined q) t) f.value }

-- the values that were gathered with none before are all that are found
module _ (k : Known) (q : ℕ) (passes : List ℕ → Bool) (before after : Values) (h : HasGathered AreKeeping AreKeeping (IsMet k q passes) before after) (empty : before.entries ≡ []) where
  met-kept : (t : List ℕ) (c : Column) → keeps after t c ≡ true → IsMet k q passes t c
  met-kept t c here = elim (h.no_more t c here) [
    | inl there ↦ absurd (true≢false (sym there ∙ keeps-none before empty t c))
    | inr met ↦ met
  ]

  -- a value that is kept isn't false, since something is told of the tuple
  kept-value : (t : List ℕ) (v : Truth) → get (slice_cmp nat_cmp) after t ≡ Some v → IsFound k q passes t × (v ≡ value_of k (Defined q) t)
  kept-value t v at =
      let found : IsFound k q passes t = IsFound-from_IsMet k q passes t Either (met-kept t Either (ap is_some at)) in
      let value = value_of k (Defined q) t in
      let told : (c : Column) → keeps after t c ≡ tells c value =
      λ c. both_ways (keeps after t c) (tells c value) (λ e. (met-kept t c e).told) (λ e. h.met t c (record { tuple = found.tuple; passed = found.passed; told = e })) in
      (found, same-pair v value (sym (ap (λ o. must (unwrap_or o False)) at) ∙ told Must) (sym (ap (λ o. may (unwrap_or o False)) at) ∙ told May))

  pub AreValuesFound-gathered : IsOrdered (slice_cmp nat_cmp) after → AreValuesFound k q passes after.entries
  AreValuesFound-gathered sorted = record {
    ordered = sorted;
    members = λ t v. (
      λ there. kept-value t v (btree_map_get_place nat_list_cmp_total after there.0 t v sorted (slice_get_read after.entries (length after.entries) there.0 (t, v) refl there.1 (sym there.2))),
      λ both. Contains-from_get t v both,
    );
  }
    where
      Contains-from_get : (t : List ℕ) (v : Truth) → IsFound k q passes t × (v ≡ value_of k (Defined q) t) → Contains after.entries (t, v)
      Contains-from_get t v both = go (get (slice_cmp nat_cmp) after t) refl
        where
          go : (o : Option Truth) → get (slice_cmp nat_cmp) after t ≡ o → Contains after.entries (t, v)
          go None e = absurd (true≢false (sym (h.met t Either (IsMet-from_IsFound k q passes t both.0)) ∙ ap is_some e))
          go (Some w) e =
              let place = place_from_lookup (is_at (slice_cmp nat_cmp t)) after.entries w e in
              let key : place.1 ≡ t = sym (exact_bytes t place.1 ((Equal-is (slice_cmp nat_cmp t place.1)).0 place.3)) in
              let entry : (place.1, w) ≡ (t, v) = ap₂ (λ (s : List ℕ) (x : Truth). (s, x)) key ((kept-value t w e).1 ∙ sym both.1) in
              (place.0, slice_get_within after.entries place.0 (place.1, w) place.2, get_or_from_slice_get after.entries place.0 (place.1, w) (t, v) place.2 ∙ entry)
