-- What is known of an edge, after a merge and in a state with other objects.
use Rattle.std.proofs.Common.{◌≡◌, ℕ, Bool, true, false, ◌==◌, ◌&&◌, if◌then◌else◌, [], ◌∷◌, length, Option, None, Some, refl, sym, ◌∙◌, ap, ap₂, subst, inl, inr, rules}
use Rattle.std.specs.FinSet.{contains}
use Rattle.std.proofs.lemmas.Bool.{and_from, and_parts, cases_Bool, cases_lt, eq-eqb, eqb-true, false_from_ne_true}
use Rattle.std.proofs.lemmas.List.{get_or_past}
use Rattle.rf_finite.specs.Range.{some_below}
use Rattle.rf_values.specs.Truth.{merge}
use Rattle.rf_values.specs.declared.class_set.ClassSet.{ClassSet}
use Rattle.rf_values.specs.declared.truth.Truth.{Truth}
use Rattle.rf_values.specs.declared.truth.Truth.TheVariants.{False, Unknown}
use Rattle.rf_problem.specs.Asserted.{asserted}
use Rattle.rf_problem.specs.Classes.{is_below}
use Rattle.rf_problem.specs.Parts.{no_reference, reference_at}
use Rattle.rf_problem.specs.Valid.{AreMirrored}
use Rattle.rf_problem.specs.declared.problem.Problem.{Problem}
use Rattle.rf_problem.specs.declared.symbol.Symbol.TheVariants.{Reference}
use Rattle.rf_state.specs.State.{State, by_classes, fact, is_at, merged_at, object_of, some_candidate, told, told_back}

pub assoc : (a b v : Truth) → merge a (merge b v) ≡ merge (merge a b) v
assoc a b v = search rules

exchange : (a b c : Truth) → merge a (merge b c) ≡ merge b (merge a c)
exchange a b c = search rules

-- a truth that is merged into the first, or into the first two, of three is merged into all of them
into_first : (t b c v : Truth) → merge (merge t v) (merge b c) ≡ merge (merge t (merge b c)) v
into_first t b c v = search rules

into_both : (t b c v : Truth) → merge (merge t v) (merge (merge b v) c) ≡ merge (merge t (merge b c)) v
into_both t b c v = search rules

same_opposites : (a b c d : Bool) → a ≡ d → b ≡ c → (if a && b then Unknown else False) ≡ (if c && d then Unknown else False)
same_opposites a b c d e f = search rules

-- which edge is at a place
pub numbers-from_is_at : (r a b k x y : ℕ) → is_at r a b k x y ≡ true → (k ≡ r) × (x ≡ a) × (y ≡ b)
numbers-from_is_at r a b k x y e =
    let parts = and_parts (k == r) (x == a && y == b) e in
    let ends = and_parts (x == a) (y == b) parts.1 in
    (eqb-true k r parts.0, eqb-true x a ends.0, eqb-true y b ends.1)

module _ (p : Problem) where
  -- the opposite of a reference, where it has one
  pub opposite : (r q : ℕ) → (reference_at p.references r).opposite ≡ Some q → AreMirrored p.references r q
  opposite r q e = elim (cases_lt r (length p.references)) [
    | inl l ↦ p.references_fit.mirrored r l q e
    | inr past ↦ (let none : reference_at p.references r ≡ no_reference = get_or_past p.references r no_reference past in
        absurd (let q : None ≡ Some q = sym (ap (λ x. x.opposite) none) ∙ e in cc))
  ]

  -- what is known of an edge by both ends is known of the edge back of the opposite
  by_classes-back : (s : State) (r q a b : ℕ) → AreMirrored p.references r q → by_classes p s r a b ≡ by_classes p s q b a
  by_classes-back s r q a b m = same_opposites (some_candidate p s a (reference_at p.references r).source) (some_candidate p s b (reference_at p.references r).target)
      (some_candidate p s b (reference_at p.references q).source) (some_candidate p s a (reference_at p.references q).target)
      (ap (some_candidate p s a) (sym m.target)) (ap (some_candidate p s b) (sym m.source))

  -- what is known of an edge, where this is the opposite
  abbrev fact_with : State → Option ℕ → ℕ → ℕ → ℕ → Truth
  fact_with s o r a b = merge (told p s r a b) (merge (told_back p s o a b) (by_classes p s r a b))

  pub fact-mirrored : (s : State) (r q a b : ℕ) → (reference_at p.references r).opposite ≡ Some q → fact p s r a b ≡ fact p s q b a
  fact-mirrored s r q a b e =
      let m = opposite r q e in
      ap (λ o. fact_with s o r a b) e
      ∙ ap (λ v. merge (told p s r a b) (merge (told p s q b a) v)) (by_classes-back s r q a b m)
      ∙ exchange (told p s r a b) (told p s q b a) (by_classes p s q b a)
      ∙ sym (ap (λ o. fact_with s o q b a) m.back)

  module _ (s : State) (r a b : ℕ) (v : Truth) where
    abbrev after : State
    after = merged_at s r a b v

    told-at : (k x y : ℕ) → is_at r a b k x y ≡ true → told p after k x y ≡ merge (told p s k x y) v
    told-at k x y e = rw e (assoc (asserted p (Reference k) ((object_of s x).origin ∷ (object_of s y).origin ∷ [])) (s.added k x y) v)

    told-off : (k x y : ℕ) → is_at r a b k x y ≡ false → told p after k x y ≡ told p s k x y
    told-off k x y e = rw e refl

    is_at-own : is_at r a b r a b ≡ true
    is_at-own = and_from (r == r) (a == a && b == b) (eq-eqb r r refl) (and_from (a == a) (b == b) (eq-eqb a a refl) (eq-eqb b b refl))

    -- at the edge itself, whatever its reference's opposite is
    at_edge : (o : Option ℕ) → fact_with after o r a b ≡ merge (fact_with s o r a b) v
    at_edge None = let t = told-at r a b is_at-own in rw t (into_first (told p s r a b) Unknown (by_classes p s r a b) v)
    at_edge (Some q) = let t = told-at r a b is_at-own in elim (cases_Bool (is_at r a b q b a)) [
      | inl e ↦ (let u = told-at q b a e in rw (t, u) (into_both (told p s r a b) (told p s q b a) (by_classes p s r a b) v))
      | inr e ↦ (let u = told-off q b a e in rw (t, u) (into_first (told p s r a b) (told p s q b a) (by_classes p s r a b) v))
    ]

    pub fact-at : fact p after r a b ≡ merge (fact p s r a b) v
    fact-at = at_edge (reference_at p.references r).opposite

    pub fact-at_opposite : (q : ℕ) → (reference_at p.references r).opposite ≡ Some q → fact p after q b a ≡ merge (fact p s q b a) v
    fact-at_opposite q e = sym (fact-mirrored after r q a b e) ∙ fact-at ∙ ap (λ f. merge f v) (fact-mirrored s r q a b e)

    -- what is told of the edge back elsewhere, where this is the opposite
    back-off : (k x y : ℕ) (o : Option ℕ) → (reference_at p.references k).opposite ≡ o
        → (((reference_at p.references r).opposite ≡ Some k) × (x ≡ b) × (y ≡ a) → ⊥) → told_back p after o x y ≡ told_back p s o x y
    back-off k x y None e other = refl
    back-off k x y (Some q) e other = told-off q y x (false_from_ne_true (is_at r a b q y x) (λ t.
        let at = numbers-from_is_at r a b q y x t in
        let m = opposite k q e in
        other (subst (λ z. (reference_at p.references z).opposite ≡ Some k) at.0 m.back, at.2, at.1)))

    pub fact-off : (k x y : ℕ) → ((k ≡ r) × (x ≡ a) × (y ≡ b) → ⊥)
        → (((reference_at p.references r).opposite ≡ Some k) × (x ≡ b) × (y ≡ a) → ⊥) → fact p after k x y ≡ fact p s k x y
    fact-off k x y here back =
        let t = told-off k x y (false_from_ne_true (is_at r a b k x y) (λ e. here (numbers-from_is_at r a b k x y e))) in
        let u = back-off k x y (reference_at p.references k).opposite refl back in
        ap₂ (λ m n. merge m (merge n (by_classes p s k x y))) t u

-- objects of two states that come from the same objects and have the same candidates
module _ (p : Problem) (s u : State) (a b x y : ℕ) (from : (object_of u a).origin ≡ (object_of s x).origin)
    (to : (object_of u b).origin ≡ (object_of s y).origin) where
  pub told-like : (r : ℕ) → u.added r a b ≡ s.added r x y → told p u r a b ≡ told p s r x y
  told-like r e = rw (from, to, e) refl

  told_back-like : (o : Option ℕ) → ((r : ℕ) → u.added r b a ≡ s.added r y x) → told_back p u o a b ≡ told_back p s o x y
  told_back-like None e = refl
  told_back-like (Some q) e = let e = e q in rw (from, to, e) refl

  pub fact-like : ((r : ℕ) → u.added r a b ≡ s.added r x y) → ((r : ℕ) → u.added r b a ≡ s.added r y x)
      → (object_of u a).candidates ≡ (object_of s x).candidates → (object_of u b).candidates ≡ (object_of s y).candidates
      → (r : ℕ) → fact p u r a b ≡ fact p s r x y
  fact-like there back same_from same_to r =
      let some : ClassSet → ℕ → Bool = λ set k. some_below (length p.classes) (λ c. contains set c && is_below p.classes c k) in
      let candidates : by_classes p u r a b ≡ by_classes p s r x y = ap₂ (λ m n. if some m (reference_at p.references r).source && some n (reference_at p.references r).target
      then Unknown else False) same_from same_to in
      let t = told-like r (there r) in
      let o = told_back-like (reference_at p.references r).opposite back in
      rw (t, o, candidates) refl
