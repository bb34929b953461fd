-- What edits change of what is known of objects and edges.
use Rattle.std.proofs.Common.{◌≡◌, ◌≢◌, ℕ, Bool, true, false, not, ◌&&◌, ◌||◌, ◌==◌, if◌then◌else◌, ◌++◌, Option, Some, None, [], ◌∷◌, Contains, length, nat_lt, ◌⊎◌, refl, sym, ap, ap₂, ◌∙◌, subst, inl, inr, arith, true≢false}
use Rattle.std.proofs.lemmas.Bool.{and_from, cases_eq, eq-eqb, ne_eqb}
use Rattle.std.specs.FinSet.{contains}
use Rattle.std.specs.Prelude.{nat_le}
use Rattle.rf_finite.specs.Ends.{within}
use Rattle.rf_finite.specs.Range.{all_below, some_below}
use Rattle.rf_finite.proofs.Lists.{list_any-from_one}
use Rattle.rf_values.specs.Truth.{truth_of}
use Rattle.rf_values.specs.declared.truth.Truth.{Truth}
use Rattle.rf_values.specs.declared.truth.Truth.TheVariants.{False}
use Rattle.rf_problem.specs.Asserted.{match_each}
use Rattle.rf_problem.specs.Classes.{is_below}
use Rattle.rf_problem.specs.Parts.{reference_at}
use Rattle.rf_problem.specs.declared.problem.Problem.{Problem}
use Rattle.rf_problem.specs.declared.symbol.Symbol.TheVariants.{Class, Reference}
use Rattle.rf_state.specs.declared.object.Object.{Object}
use Rattle.rf_state.specs.Laws.{AreSameButFor}
use Rattle.rf_state.specs.State.{State, fact, kept_to, merged_at, narrowed, object_of}
use Rattle.rf_state.specs.StateKnown.{state_known}
use Rattle.rf_state.proofs.EditLemmas.{keeping, narrowing}
use Rattle.rf_state.proofs.FactLemmas.{fact-off}
use Rattle.rf_renewal.specs.Changes.{Changes}
use Rattle.rf_renewal.specs.Covered.{CoverFacts}
use Rattle.rf_renewal.specs.Edits.{HasCandidates, HasCount, HasMerged, is_opposite, merged_pairs}
use Rattle.rf_renewal.specs.Laws.{CandidatesAreCovered, CountIsCovered, EdgeIsCovered}
use Rattle.rf_renewal.specs.Patterns.{Pattern, match_some}

-- the pattern of a pair matches it
own_pair : (a b : ℕ) → match_each (Some a ∷ Some b ∷ []) (a ∷ b ∷ []) ≡ true
own_pair a b = and_from (a == a) (b == b && true) (eq-eqb a a refl) (and_from (b == b) true (eq-eqb b b refl) refl)

-- of two lists of at most one each, the second's
second_in : (f g : Bool) (x y : Pattern) → g ≡ true → Contains
    ((if f then x ∷ [] else []) ++ (if g then y ∷ [] else [])) y
second_in true true x y e = (1, omega arith, refl)
second_in false true x y e = (0, omega arith, refl)
second_in f false x y e = absurd (true≢false (sym e))

opposite-some : (o : Option ℕ) (q : ℕ) → o ≡ Some q → is_opposite o q ≡ true
opposite-some None q e = absurd (let f : None ≡ Some q = e in cc)
opposite-some (Some k) q e = eq-eqb k q (let f : Some k ≡ Some q = e in cc)

opposite-cases : (o : Option ℕ) (q : ℕ) → (o ≡ Some q) ⊎ (o ≡ Some q → ⊥)
opposite-cases None q = inr (λ e. let f : None ≡ Some q = e in cc)
opposite-cases (Some k) q = elim (cases_eq k q) [
  | inl e ↦ inl (ap (λ z. Some z) e)
  | inr ne ↦ inr (λ e. ne (let f : Some k ≡ Some q = e in cc))
]

-- the numbers are the same as others, or not
same_or_not : (k r x a y b : ℕ) → ((k ≡ r) × (x ≡ a) × (y ≡ b)) ⊎ (((k ≡ r) × (x ≡ a) × (y ≡ b)) → ⊥)
same_or_not k r x a y b = elim (cases_eq k r) [
  | inl e ↦ elim (cases_eq x a) [
    | inl f ↦ elim (cases_eq y b) [ inl g ↦ inl (e, f, g) | inr ne ↦ inr (λ h. ne h.2) ]
    | inr ne ↦ inr (λ h. ne h.1)
  ]
  | inr ne ↦ inr (λ h. ne h.0)
]

module _ (p : Problem) (s : State) (r a b : ℕ) (v : Truth) (changes : Changes) (has : HasMerged p r a b changes) where
  abbrev after : State
  after = merged_at s r a b v

  abbrev IsListed : ℕ → ℕ → ℕ → Type 0
  IsListed q x y = match_some (changes.tuples (Reference q)) (x ∷ y ∷ []) ≡ true

  listed : (q x y : ℕ) → Contains (merged_pairs p r a b q) (Some x ∷ Some y ∷ []) → IsListed q x y
  listed q x y c = list_any-from_one (λ pattern. match_each pattern (x ∷ y ∷ [])) (changes.tuples (Reference q))
      (Some x ∷ Some y ∷ []) (has q (Some x ∷ Some y ∷ []) c) (own_pair x y)

  there : (q : ℕ) → q ≡ r → IsListed q a b
  there q e = listed q a b (let same = eq-eqb r q (sym e) in rw same (0, omega arith, refl))

  back : (q : ℕ) → (reference_at p.references r).opposite ≡ Some q → IsListed q b a
  back q e = listed q b a (second_in (r == q) (is_opposite (reference_at p.references r).opposite q)
      (Some a ∷ Some b ∷ []) (Some b ∷ Some a ∷ [])
      (opposite-some (reference_at p.references r).opposite q e))

  -- what is known of an edge is as before, or its pair is among those of the changes
  fact-or_listed : (q x y : ℕ) → (fact p after q x y ≡ fact p s q x y) ⊎ IsListed q x y
  fact-or_listed q x y = elim (same_or_not q r x a y b) [
    | inl e ↦ inr (subst (λ z. IsListed q x z) (sym e.2) (subst (λ z. IsListed q z b) (sym e.1) (there q e.0)))
    | inr here ↦ elim (opposite-cases (reference_at p.references r).opposite q) [
      | inl e ↦ elim (same_or_not q q x b y a) [
        | inl f ↦ inr (subst (λ z. IsListed q x z) (sym f.2) (subst (λ z. IsListed q z a) (sym f.1) (back q e)))
        | inr other ↦ inl (fact-off p s r a b v q x y here (λ h. other (refl, h.1, h.2)))
      ]
      | inr none ↦ inl (fact-off p s r a b v q x y here (λ h. none h.0))
    ]
  ]

  pub edge_covered : CoverFacts (state_known p s) (state_known p after) changes
  edge_covered = record {
    problem = refl;
    size = refl;
    origins = λ x l. refl;
    presences = λ x l. inl refl;
    classes = λ c x l. inl refl;
    edges = λ q x y lx ly. elim (fact-or_listed q x y) [
      | inl e ↦ inl (ap (λ w. if nat_lt x (length s.objects) && nat_lt y (length s.objects) then w else False) e)
      | inr h ↦ inr h
    ];
    sames = λ x y lx ly. inl refl;
    differences = λ x y lx ly. inl refl;
  }

pub edge_is_covered : EdgeIsCovered
edge_is_covered p s r a b v changes has = edge_covered p s r a b v changes has

-- two states that are the same but for object o, which comes from the same object in both
module _ (p : Problem) (s u : State) (o : ℕ) (same : AreSameButFor o s u)
    (origin : (object_of u o).origin ≡ (object_of s o).origin) where
  -- what is told of an object is as before for each other
  at_others : (f : Object → Truth) (IsListed : ℕ → Type 0) → (f (object_of u o) ≡ f (object_of s o)) ⊎ IsListed o
      → (x : ℕ) → (f (object_of u x) ≡ f (object_of s x)) ⊎ IsListed x
  at_others f IsListed own x = elim (cases_eq x o) [
    | inl e ↦ subst (λ z. (f (object_of u z) ≡ f (object_of s z)) ⊎ IsListed z) (sym e) own
    | inr ne ↦ inl (ap f (same.others x ne))
  ]

  origin-same : (x : ℕ) → (object_of u x).origin ≡ (object_of s x).origin
  origin-same x = elim (cases_eq x o) [
    | inl e ↦ subst (λ z. (object_of u z).origin ≡ (object_of s z).origin) (sym e) origin
    | inr ne ↦ ap (λ z. z.origin) (same.others x ne)
  ]

  -- so with pairs, where two objects that aren't one are told apart whatever they are
  at_other_pairs : (f : Bool → Object → Truth) (IsListed : ℕ → ℕ → Type 0) → ((z w : Object) → f false z ≡ f false w)
      → (f (o == o) (object_of u o) ≡ f (o == o) (object_of s o)) ⊎ IsListed o o
      → (x y : ℕ) → (f (x == y) (object_of u x) ≡ f (x == y) (object_of s x)) ⊎ IsListed x y
  at_other_pairs f IsListed apart own x y = elim (cases_eq x o) [
    | inr ne ↦ inl (ap (f (x == y)) (same.others x ne))
    | inl e ↦ elim (cases_eq y o) [
      | inl g ↦ subst (λ z. (f (z == y) (object_of u z) ≡ f (z == y) (object_of s z)) ⊎ IsListed z y) (sym e)
          (subst (λ z. (f (o == z) (object_of u o) ≡ f (o == z) (object_of s o)) ⊎ IsListed o z) (sym g) own)
      | inr ne ↦ (let off : (x == y) ≡ false = ne_eqb x y (λ k. ne (sym k ∙ e)) in
          inl (subst (λ b. f b (object_of u x) ≡ f b (object_of s x)) (sym off)
          (apart (object_of u x) (object_of s x))))
    ]
  ]

  -- edges are in range alike
  edge-from_fact : (r x y : ℕ) → fact p u r x y ≡ fact p s r x y → (state_known p u).edge r x y ≡
      (state_known p s).edge r x y
  edge-from_fact r x y e = ap₂ (λ n w. if nat_lt x n && nat_lt y n then w else False) same.many e

  pub object_covered : (changes : Changes) → HasCount (state_known p s) (state_known p u) o changes → HasCandidates
      (state_known p s) (state_known p u) o changes
      → ((r x y : ℕ) → x ≢ o → y ≢ o → fact p u r x y ≡ fact p s r x y) → CoverFacts (state_known p s)
      (state_known p u) changes
  object_covered changes count candidates elsewhere = record {
    problem = refl;
    size = same.many;
    origins = λ x l. origin-same x;
    presences = λ x l. at_others (λ z. truth_of (nat_le 1 z.count.lo) (within 1 z.count.hi))
        (λ x. Contains changes.presences x) count.presence x;
    classes = λ c x l. at_others (λ z. truth_of (all_below (length p.classes)
        (λ k. not (contains z.candidates k) || is_below p.classes k c))
        (some_below (length p.classes) (λ k. contains z.candidates k && is_below p.classes k c)))
        (λ x. match_some (changes.tuples (Class c)) (x ∷ []) ≡ true) (candidates.classes c) x;
    edges = λ r x y lx ly. elim (cases_eq x o) [
      | inl e ↦ subst (λ z. ((state_known p u).edge r z y ≡ (state_known p s).edge r z y) ⊎
          (match_some (changes.tuples (Reference r)) (z ∷ y ∷ []) ≡ true))
          (sym e) (candidates.edges_from r y ly)
      | inr from ↦ elim (cases_eq y o) [
        | inl e ↦ subst (λ z. ((state_known p u).edge r x z ≡ (state_known p s).edge r x z) ⊎
            (match_some (changes.tuples (Reference r)) (x ∷ z ∷ []) ≡ true))
            (sym e) (candidates.edges_to r x lx)
        | inr to ↦ inl (edge-from_fact r x y (elsewhere r x y from to))
      ]
    ];
    sames = λ x y lx ly. at_other_pairs (λ b z. truth_of (b && not (within 2 z.count.hi)) b)
        (λ x y. match_some changes.sames (x ∷ y ∷ []) ≡ true)
        (λ z w. refl) count.same x y;
    differences = λ x y lx ly. at_other_pairs (λ b z. truth_of (not b) (not b || within 2 z.count.hi))
        (λ x y. match_some changes.differences (x ∷ y ∷ []) ≡ true)
        (λ z w. refl) count.different x y;
  }

pub count_is_covered : CountIsCovered
count_is_covered p s o count changes l has =
    let n = narrowing p s o count l in
    object_covered p s (narrowed s o count) o n.same (ap (λ z. z.origin) n.object) changes has
    record {
      classes = λ c. inl (ap (λ z. truth_of (all_below (length p.classes)
          (λ k. not (contains z k) || is_below p.classes k c))
          (some_below (length p.classes) (λ k. contains z k && is_below p.classes k c)))
          (ap (λ z. z.candidates) n.object));
      edges_from = λ r y ly. inl (edge-from_fact p s (narrowed s o count) o n.same
          (ap (λ z. z.origin) n.object) r o y (n.facts r o y));
      edges_to = λ r x lx. inl (edge-from_fact p s (narrowed s o count) o n.same (ap (λ z. z.origin) n.object) r x o
          (n.facts r x o));
    }
    (λ r x y from to. n.facts r x y)

pub candidates_are_covered : CandidatesAreCovered
candidates_are_covered p s o set changes l has =
    let k = keeping p s o set l in
    let count = ap (λ z. z.count) k.object in
    object_covered p s (kept_to s o set) o k.same (ap (λ z. z.origin) k.object) changes
    record {
      presence = inl (ap (λ c. truth_of (nat_le 1 c.lo) (within 1 c.hi)) count);
      same = inl (ap (λ c. truth_of (o == o && not (within 2 c.hi)) (o == o)) count);
      different = inl (ap (λ c. truth_of (not (o == o)) (not (o == o) || within 2 c.hi)) count);
    }
    has
    k.facts
