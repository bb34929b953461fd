-- What each change leaves of what the rules of containment ask for.
use Rattle.std.proofs.Common.{◌≡◌, ◌⊎◌, ℕ, ◌≤◌, ◌<◌, max, Bool, true, false, ◌==◌, ◌&&◌, if◌then◌else◌, Option, None, Some, length, refl, sym, ap, ap₂, ◌∙◌, subst, inl, inr, arith, rules, true≢false}
use Rattle.std.specs.FinSet.{contains, contains-intersection, intersection}
use Rattle.std.proofs.lemmas.Bool.{and_from, and_parts, both_ways, cases_Bool, cases_eq, eq-eqb, le-leb, leb-true}
use Rattle.std.proofs.lemmas.Cmp.{nat_cmp_total}
use Rattle.std.proofs.lemmas.Option.{same_Some}
use Rattle.rf_finite.specs.Ends.{within}
use Rattle.rf_finite.proofs.Range.{None-ne_Some, some_below-more_pass}
use Rattle.rf_values.specs.Count.{lesser_end}
use Rattle.rf_values.specs.Truth as truth
use Rattle.rf_values.specs.Truth.{merge}
use Rattle.rf_values.specs.declared.class_set.ClassSet.{ClassSet}
use Rattle.rf_values.specs.declared.count.Count.{Count}
use Rattle.rf_values.specs.declared.truth.Truth.{Truth}
use Rattle.rf_values.specs.declared.truth.Truth.TheVariants.{False, Unknown}
use Rattle.rf_problem.specs.Classes.{is_below}
use Rattle.rf_problem.specs.Parts.{reference_at}
use Rattle.rf_problem.specs.declared.problem.Problem.{Problem}
use Rattle.rf_state.specs.State.{State, by_classes, fact, is_at, kept_to, merged_at, narrowed, object_of, some_candidate, told, told_back}
use Rattle.rf_state.proofs.EditLemmas.{keeping, narrowing}
use Rattle.rf_state.proofs.FactLemmas.{fact-at, fact-at_opposite, fact-off, numbers-from_is_at}
use Rattle.rf_rules.specs.Words.{hi, lo, may, must}

-- truths
may-merge : (a v : Truth) → truth.may (merge a v) ≡ true → truth.may a ≡ true
may-merge a v h = search rules

may-False : (a b : Truth) → truth.may (merge a (merge b False)) ≡ false
may-False a b = search rules

must-by_classes : (a b : Truth) (i j : Bool) → truth.must (merge a (merge b (if i then Unknown else False)))
    ≡ truth.must (merge a (merge b (if j then Unknown else False)))
must-by_classes a b i j = search rules

-- ends
within-lesser : (n : ℕ) (a b : Option ℕ) → within n (lesser_end a b) ≡ true → within n a ≡ true
within-lesser n None b h = refl
within-lesser n (Some a) None h = h
within-lesser n (Some a) (Some b) h = let l = leb-true n _ h in le-leb n a (omega (arith, l))

-- where these are the numbers of an edge
is_at-from : (r a b k x y : ℕ) → (k ≡ r) × (x ≡ a) × (y ≡ b) → is_at r a b k x y ≡ true
is_at-from r a b k x y e = and_from (k == r) (x == a && y == b) (eq-eqb k r e.0)
    (and_from (x == a) (y == b) (eq-eqb x a e.1) (eq-eqb y b e.2))

module _ (p : Problem) (s : State) where
  -- after a merge: an edge is as it was, or that of the merge, or the edge back
  module _ (q x y : ℕ) (v : Truth) where
    abbrev IsItself : ℕ → ℕ → ℕ → Type 0
    IsItself k u w = (k ≡ q) × (u ≡ x) × (w ≡ y)

    abbrev IsBack : ℕ → ℕ → ℕ → Type 0
    IsBack k u w = ((reference_at p.references q).opposite ≡ Some k) × (u ≡ y) × (w ≡ x)

    merged-off : (k u w : ℕ) → is_at q x y k u w ≡ false → (o : Option ℕ) → (reference_at p.references q).opposite ≡ o
        → (fact p (merged_at s q x y v) k u w ≡ fact p s k u w) ⊎ IsBack k u w
    merged-off k u w off None e = inl (fact-off p s q x y v k u w (λ at. both_ways (is_at q x y k u w) off (is_at-from q x y k u w at))
        (λ back. None-ne_Some (sym e ∙ back.0)))
    merged-off k u w off (Some j) e = elim (cases_Bool (is_at j y x k u w)) [
      | inl at ↦ (let numbers = numbers-from_is_at j y x k u w at in inr (e ∙ ap (λ i. Some i) (sym numbers.0), numbers.1, numbers.2))
      | inr apart ↦ inl (fact-off p s q x y v k u w (λ at. both_ways (is_at q x y k u w) off (is_at-from q x y k u w at))
          (λ back. both_ways (is_at j y x k u w) apart (is_at-from j y x k u w (same_Some k j (sym back.0 ∙ e), back.1, back.2))))
    ]

    pub merged-cases : (k u w : ℕ) → (fact p (merged_at s q x y v) k u w ≡ fact p s k u w) ⊎ (IsItself k u w ⊎ IsBack k u w)
    merged-cases k u w = elim (cases_Bool (is_at q x y k u w)) [
      | inl at ↦ inr (inl (numbers-from_is_at q x y k u w at))
      | inr off ↦ elim (merged-off k u w off (reference_at p.references q).opposite refl) [
        | inl same ↦ inl same
        | inr back ↦ inr (inr back)
      ]
    ]

    -- what can be there could be
    pub merged-may : (k u w : ℕ) → may p (merged_at s q x y v) k u w ≡ true → may p s k u w ≡ true
    merged-may k u w h = elim (merged-cases k u w) [
      | inl same ↦ sym (ap truth.may same) ∙ h
      | inr changed ↦ elim changed [
        | inl at ↦ (
            let t = merged_at s q x y v in
            let same : fact p t k u w ≡ merge (fact p s k u w) v =
            subst (λ (i : ℕ). fact p t i u w ≡ merge (fact p s i u w) v) (sym at.0)
            (subst (λ (i : ℕ). fact p t q i w ≡ merge (fact p s q i w) v) (sym at.1)
            (subst (λ (i : ℕ). fact p t q x i ≡ merge (fact p s q x i) v) (sym at.2) (fact-at p s q x y v))) in
            may-merge (fact p s k u w) v (sym (ap truth.may same) ∙ h))
        | inr back ↦ (
            let t = merged_at s q x y v in
            let same : fact p t k u w ≡ merge (fact p s k u w) v =
            subst (λ (i : ℕ). fact p t k i w ≡ merge (fact p s k i w) v) (sym back.1)
            (subst (λ (i : ℕ). fact p t k y i ≡ merge (fact p s k y i) v) (sym back.2) (fact-at_opposite p s q x y v k back.0)) in
            may-merge (fact p s k u w) v (sym (ap truth.may same) ∙ h))
      ]
    ]

  -- after a count was narrowed
  module _ (o : ℕ) (count : Count) (there : o < length s.objects) where
    pub narrowed-lo : (c : ℕ) → lo s c ≤ lo (narrowed s o count) c
    narrowed-lo c = elim (cases_eq c o) [
      | inl e ↦ subst (λ (i : ℕ). lo s i ≤ lo (narrowed s o count) i) (sym e)
          (let own : lo (narrowed s o count) o ≡ max (lo s o) count.lo = ap (λ z. z.count.lo) (narrowing p s o count there).object in
          omega (arith, own))
      | inr ne ↦ (let same : lo (narrowed s o count) c ≡ lo s c =
          ap (λ z. z.count.lo) ((narrowing p s o count there).same.others c ne) in omega (arith, same))
    ]

    pub narrowed-hi : (n c : ℕ) → within n (hi (narrowed s o count) c) ≡ true → within n (hi s c) ≡ true
    narrowed-hi n c h = elim (cases_eq c o) [
      | inl e ↦ (
          let own : hi (narrowed s o count) c ≡ lesser_end (hi s c) count.hi =
          subst (λ (i : ℕ). hi (narrowed s o count) i ≡ lesser_end (hi s i) count.hi) (sym e)
          (ap (λ z. z.count.hi) (narrowing p s o count there).object) in
          within-lesser n (hi s c) count.hi (sym (ap (within n) own) ∙ h))
      | inr ne ↦ sym (ap (λ z. within n z.count.hi) ((narrowing p s o count there).same.others c ne)) ∙ h
    ]

  -- after candidates were narrowed
  module _ (o : ℕ) (set : ClassSet) (there : o < length s.objects) where
    pub kept-count : (c : ℕ) → (object_of (kept_to s o set) c).count ≡ (object_of s c).count
    kept-count c = elim (cases_eq c o) [
      | inl e ↦ subst (λ (i : ℕ). (object_of (kept_to s o set) i).count ≡ (object_of s i).count) (sym e)
          (ap (λ z. z.count) (keeping p s o set there).object)
      | inr ne ↦ ap (λ z. z.count) ((keeping p s o set there).same.others c ne)
    ]

    kept-candidates : (c k : ℕ) → contains (object_of (kept_to s o set) c).candidates k ≡ true → contains (object_of s c).candidates k
        ≡ true
    kept-candidates c k h = elim (cases_eq c o) [
      | inl e ↦ (
          let own : (object_of (kept_to s o set) c).candidates ≡ intersection (object_of s c).candidates set =
          subst (λ (i : ℕ). (object_of (kept_to s o set) i).candidates ≡ intersection (object_of s i).candidates set) (sym e)
          (ap (λ z. z.candidates) (keeping p s o set there).object) in
          let both : (contains (object_of s c).candidates k && contains set k) ≡ true =
          sym (contains-intersection nat_cmp_total (object_of s c).candidates set k)
          ∙ (sym (ap (λ (z : ClassSet). contains z k) own) ∙ h) in
          (and_parts (contains (object_of s c).candidates k) (contains set k) both).0)
      | inr ne ↦ sym (ap (λ z. contains z.candidates k) ((keeping p s o set there).same.others c ne)) ∙ h
    ]

    some_candidate-kept : (c k : ℕ) → some_candidate p (kept_to s o set) c k ≡ true → some_candidate p s c k ≡ true
    some_candidate-kept c k h = some_below-more_pass (length p.classes) _ _ (λ d l both.
        let parts = and_parts (contains (object_of (kept_to s o set) c).candidates d) (is_below p.classes d k) both in
        and_from (contains (object_of s c).candidates d) (is_below p.classes d k) (kept-candidates c d parts.0) parts.1) h

    kept-told_back : (opposite : Option ℕ) (a b : ℕ) → told_back p (kept_to s o set) opposite a b ≡ told_back p s opposite a b
    kept-told_back None a b = refl
    kept-told_back (Some q) a b = (keeping p s o set there).told_facts q b a

    -- what has to be of an edge, and what can be, by what is told of it and by its ends
    abbrev with_classes : State → ℕ → ℕ → ℕ → Truth → Truth
    with_classes u r a b v = merge (told p u r a b) (merge (told_back p u (reference_at p.references r).opposite a b) v)

    kept-told : (r a b : ℕ) (v : Truth) → with_classes (kept_to s o set) r a b v ≡ with_classes s r a b v
    kept-told r a b v = ap₂ (λ i j. merge i (merge j v)) ((keeping p s o set there).told_facts r a b)
        (kept-told_back (reference_at p.references r).opposite a b)

    abbrev may_be_at : State → ℕ → ℕ → ℕ → Bool
    may_be_at u r a b = some_candidate p u a (reference_at p.references r).source
        && some_candidate p u b (reference_at p.references r).target

    pub kept-must : (r a b : ℕ) → must p (kept_to s o set) r a b ≡ must p s r a b
    kept-must r a b =
        ap truth.must (kept-told r a b (by_classes p (kept_to s o set) r a b))
        ∙ must-by_classes (told p s r a b) (told_back p s (reference_at p.references r).opposite a b) (may_be_at (kept_to s o set) r a b)
        (may_be_at s r a b)

    pub kept-may : (r a b : ℕ) → may p (kept_to s o set) r a b ≡ true → may p s r a b ≡ true
    kept-may r a b h =
        let u = kept_to s o set in
        let now = sym (ap truth.may (kept-told r a b (by_classes p u r a b))) ∙ h in
        elim (cases_Bool (may_be_at u r a b)) [
          | inl e ↦ (
              let ends = and_parts (some_candidate p u a (reference_at p.references r).source)
              (some_candidate p u b (reference_at p.references r).target) e in
              let was : may_be_at s r a b ≡ true = and_from _ _ (some_candidate-kept a (reference_at p.references r).source ends.0)
              (some_candidate-kept b (reference_at p.references r).target ends.1) in
              let same : by_classes p s r a b ≡ by_classes p u r a b = ap (λ i. if i then Unknown else False) (was ∙ sym e) in
              ap (λ v. truth.may (with_classes s r a b v)) same ∙ now)
          | inr e ↦ absurd (
              let none : by_classes p u r a b ≡ False = ap (λ i. if i then Unknown else False) e in
              true≢false (sym now ∙ (ap (λ v. truth.may (with_classes s r a b v)) none
              ∙ may-False (told p s r a b) (told_back p s (reference_at p.references r).opposite a b))))
        ]
