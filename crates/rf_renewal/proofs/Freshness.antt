-- What a fresh object changes of what is known, and a table that is renewed over it.
use Rattle.std.proofs.Common.{◌≡◌, ℕ, zero, suc, ◌<◌, Bool, true, false, not, ◌&&◌, ◌||◌, ◌==◌, List, [], ◌∷◌, Contains, length, ◌⊎◌, refl, sym, ap, ◌∙◌, subst, inl, inr, arith}
use Rattle.std.specs.FinSet.{contains}
use Rattle.std.specs.List.{list_any}
use Rattle.std.specs.Prelude.{nat_le}
use Rattle.std.proofs.lemmas.Bool.{both_ways, cases_Bool, cases_eq, eq-eqb, lt-ltb, ne_eqb, or_parts}
use Rattle.rf_finite.specs.Ends.{within}
use Rattle.rf_finite.specs.Range.{all_below, some_below}
use Rattle.rf_finite.specs.Tuples.{IsTuple}
use Rattle.rf_finite.proofs.Range.{below_or_last}
use Rattle.rf_values.specs.Truth.{truth_of}
use Rattle.rf_values.specs.declared.class_set.ClassSet.{ClassSet}
use Rattle.rf_values.specs.declared.truth.Truth.{Truth}
use Rattle.rf_problem.specs.Classes.{is_below}
use Rattle.rf_problem.specs.Parts.{predicate_at}
use Rattle.rf_problem.specs.declared.problem.Problem.{Problem}
use Rattle.rf_problem.specs.declared.symbol.Symbol.TheVariants.{Class, Reference}
use Rattle.rf_evaluate.specs.Known.{Known}
use Rattle.rf_state.specs.declared.object.Object.{Object}
use Rattle.rf_state.specs.Laws.{IsFresh}
use Rattle.rf_state.specs.State.{State, fresh_of, object_of}
use Rattle.rf_state.specs.StateKnown.{state_known}
use Rattle.rf_state.proofs.EditLemmas.{fresh_is}
use Rattle.rf_renewal.specs.Changes.{Changes, may_change, row_may_change}
use Rattle.rf_renewal.specs.Covered.{CoverFacts}
use Rattle.rf_renewal.specs.Grown.{HasFresh, grown}
use Rattle.rf_renewal.specs.Laws.{FreshIsCovered, RenewedOverFreshIsRight}
use Rattle.rf_renewal.specs.Patterns.{match_some}
use Rattle.rf_renewal.specs.Table.{is_walked}
use Rattle.rf_renewal.proofs.Elements.{Below}
use Rattle.rf_renewal.proofs.Growing.{origin-old, presence-old, value-grown, walk-grown}
use Rattle.rf_renewal.proofs.Renewing.{walked-steps}
use Rattle.rf_renewal.proofs.Staying.{tuple-from_below, tuple_below, value-stays, walk-stays}

module _ (p : Problem) (s : State) (o : ℕ) (there : o < length s.objects) (changes : Changes)
    (has : HasFresh (state_known p s) (state_known p (fresh_of s o)) o changes) where
  abbrev n : ℕ
  n = length s.objects

  abbrev after : State
  after = fresh_of s o

  abbrev mid : Known
  mid = grown (state_known p s) o

  abbrev now : Known
  now = state_known p after

  is : IsFresh p s o after
  is = fresh_is p s o there

  -- what an object keeps where it loses a node, it keeps everywhere
  kept_of : {A : Type 0} (f : Object → A) → f (object_of after o) ≡ f (object_of s o) → (x : ℕ) → x < n → f
      (object_of after x) ≡ f (object_of s x)
  kept_of f own x l = elim (cases_eq x o) [
    | inl e ↦ subst (λ z. f (object_of after z) ≡ f (object_of s z)) (sym e) own
    | inr ne ↦ ap f (is.others x l ne)
  ]

  origin-new : now.origin n ≡ mid.origin n
  origin-new = let e : (n == n) ≡ true = eq-eqb n n refl in rw e (ap (λ z. z.origin) is.fresh)

  origin-same : (x : ℕ) → x < suc n → now.origin x ≡ mid.origin x
  origin-same x l = elim (below_or_last n x l) [
    | inl lx ↦ kept_of (λ z. z.origin) (ap (λ z. z.origin) is.own) x lx ∙ sym (origin-old (state_known p s) o x lx)
    | inr last ↦ subst (λ z. now.origin z ≡ mid.origin z) (sym last) origin-new
  ]

  presence-or_listed : (x : ℕ) → x < suc n → (now.presence x ≡ mid.presence x) ⊎ Contains changes.presences x
  presence-or_listed x l = elim (below_or_last n x l) [
    | inr last ↦ inr (subst (λ z. Contains changes.presences z) (sym last) has.presence)
    | inl lx ↦ elim (cases_eq x o) [
      | inr ne ↦ inl (ap (λ z. truth_of (nat_le 1 z.count.lo) (within 1 z.count.hi)) (is.others x lx ne) ∙ sym
          (presence-old (state_known p s) o x lx))
      | inl e ↦ elim has.count.presence [
        | inl same ↦ inl (subst (λ z. now.presence z ≡ (state_known p s).presence z) (sym e) same ∙ sym
            (presence-old (state_known p s) o x lx))
        | inr c ↦ inr (subst (λ z. Contains changes.presences z) (sym e) c)
      ]
    ]
  ]

  class-or_listed : (c x : ℕ) → x < suc n → (now.class c x ≡ mid.class c x) ⊎
      (match_some (changes.tuples (Class c)) (x ∷ []) ≡ true)
  class-or_listed c x l = elim (below_or_last n x l) [
    | inr last ↦ inr (subst (λ z. match_some (changes.tuples (Class c)) (z ∷ []) ≡ true) (sym last) (has.classes c))
    | inl lx ↦ inl (ap (λ (z : ClassSet). truth_of
        (all_below (length p.classes) (λ k. not (contains z k) || is_below p.classes k c))
        (some_below (length p.classes) (λ k. contains z k && is_below p.classes k c)))
        (kept_of (λ z. z.candidates) (ap (λ z. z.candidates) is.own) x lx))
  ]

  edge-old : (r x y : ℕ) → x < n → y < n → now.edge r x y ≡ mid.edge r x y
  edge-old r x y lx ly =
      let many = is.many in
      let fromx = lt-ltb x (length after.objects) (omega (arith, many, lx)) in
      let tox = lt-ltb y (length after.objects) (omega (arith, many, ly)) in
      let from = lt-ltb x n lx in
      let to = lt-ltb y n ly in
      rw (fromx, tox, from, to) (is.facts r x y lx ly)

  edge-or_listed : (r x y : ℕ) → x < suc n → y < suc n → (now.edge r x y ≡ mid.edge r x y) ⊎
      (match_some (changes.tuples (Reference r)) (x ∷ y ∷ []) ≡ true)
  edge-or_listed r x y l m = elim (below_or_last n x l) [
    | inr last ↦ inr (subst (λ z. match_some (changes.tuples (Reference r)) (z ∷ y ∷ []) ≡ true) (sym last)
        (has.edges_from r y))
    | inl lx ↦ elim (below_or_last n y m) [
      | inr last ↦ inr (subst (λ z. match_some (changes.tuples (Reference r)) (x ∷ z ∷ []) ≡ true) (sym last)
          (has.edges_to r x))
      | inl ly ↦ inl (edge-old r x y lx ly)
    ]
  ]

  -- of a pair what tells an object apart from each other is as before but for the new one and o
  pair-or_listed : (f : Bool → Object → Truth) (IsListed : ℕ → ℕ → Type 0) → ((z w : Object) → f false z ≡ f false w)
      → (f (o == o) (object_of after o) ≡ f (o == o) (object_of s o)) ⊎ IsListed o o → IsListed n n
      → (x y : ℕ) → x < suc n → (f (x == y) (object_of after x) ≡ f (x == y) (object_of s x)) ⊎ IsListed x y
  pair-or_listed f IsListed apart own new x y l = elim (cases_eq x y) [
    | inr ne ↦ (let off : (x == y) ≡ false = ne_eqb x y ne in
        inl (subst (λ b. f b (object_of after x) ≡ f b (object_of s x)) (sym off)
        (apart (object_of after x) (object_of s x))))
    | inl e ↦ subst (λ z. (f (x == z) (object_of after x) ≡ f (x == z) (object_of s x)) ⊎ IsListed x z) e
        (elim (below_or_last n x l) [
          | inr last ↦ inr (subst (λ z. IsListed z z) (sym last) new)
          | inl lx ↦ elim (cases_eq x o) [
            | inl k ↦ subst (λ z. (f (z == z) (object_of after z) ≡ f (z == z) (object_of s z)) ⊎ IsListed z z)
                (sym k) own
            | inr ne ↦ inl (ap (f (x == x)) (is.others x lx ne))
          ]
        ])
  ]

  pub fresh_covered : CoverFacts mid now changes
  fresh_covered = record {
    problem = refl;
    size = (let many = is.many in omega (arith, many));
    origins = origin-same;
    presences = presence-or_listed;
    classes = class-or_listed;
    edges = edge-or_listed;
    sames = λ x y lx ly. pair-or_listed (λ b z. truth_of (b && not (within 2 z.count.hi)) b)
        (λ x y. match_some changes.sames (x ∷ y ∷ []) ≡ true)
        (λ z w. refl) has.count.same has.same x y lx;
    differences = λ x y lx ly. pair-or_listed (λ b z. truth_of (not b) (not b || within 2 z.count.hi))
        (λ x y. match_some changes.differences (x ∷ y ∷ []) ≡ true)
        (λ z w. refl) has.count.different has.different x y lx;
  }

pub fresh_is_covered : FreshIsCovered
fresh_is_covered p s o changes l has = fresh_covered p s o l changes has

-- a tuple below the next bound that doesn't have the last element is below the bound
below-without_last : (n : ℕ) (t : List ℕ) → Below (suc n) t → list_any (λ x. x == n) t ≡ false → Below n t
below-without_last n [] below none i l = absurd (omega arith)
below-without_last n (x ∷ t) below none zero l =
    let parts = or_parts (x == n) (list_any (λ x. x == n) t) none in
    elim (below_or_last n x (below 0 (omega arith))) [
      | inl lx ↦ lx
      | inr last ↦ absurd (both_ways (x == n) parts.0 (eq-eqb x n last))
    ]
below-without_last n (x ∷ t) below none (suc i) l =
    below-without_last n t (λ j m. below (suc j) (omega arith))
    (or_parts (x == n) (list_any (λ x. x == n) t) none).1 i (omega arith)

-- a number below the next bound that isn't the last is below the bound
without_last : (n x : ℕ) → x < suc n → (x == n) ≡ false → x < n
without_last n x l none = elim (below_or_last n x l) [
  | inl lx ↦ lx
  | inr last ↦ absurd (both_ways (x == n) none (eq-eqb x n last))
]

pub renewed_over_fresh_is_right : RenewedOverFreshIsRight
renewed_over_fresh_is_right was now o changes done table c all right = record {
  values = λ q t tuple. (
      let arity = (predicate_at was.problem.predicates q).arity in
      let more_tuple : IsTuple (suc was.size) arity t =
      subst (λ (p : Problem). IsTuple (suc was.size) (predicate_at p.predicates q).arity t) c.facts.problem
      (subst (λ m. IsTuple m (predicate_at now.problem.predicates q).arity t) c.facts.size tuple) in
      elim (cases_Bool (list_any (λ x. x == was.size) t || may_change (grown was o) changes q t)) [
        | inl e ↦ rw e refl
        | inr e ↦ (let parts = or_parts (list_any (λ x. x == was.size) t) (may_change (grown was o) changes q t) e in
            let was_tuple = tuple-from_below was.size arity t more_tuple.many
            (below-without_last was.size t (tuple_below (suc was.size) arity t more_tuple) parts.0) in
            rw e (right.values q t was_tuple ∙ (sym (value-grown was o q t was_tuple) ∙ sym
            (value-stays (grown was o) now changes done c q t (all.predicates q) more_tuple parts.1))))
      ]);
  walks = λ symbol x y walked lx ly. (
      let was_walked : is_walked was.problem symbol ≡ true = subst
      (λ p. is_walked p symbol ≡ true) c.facts.problem walked in
      let mx : x < suc was.size = subst (λ m. x < m) c.facts.size lx in
      let my : y < suc was.size = subst (λ m. y < m) c.facts.size ly in
      let steps = walked-steps was.problem symbol was_walked in
      elim (cases_Bool (x == was.size || (y == was.size || row_may_change (grown was o) changes symbol x))) [
        | inl e ↦ rw e refl
        | inr e ↦ (let first = or_parts (x == was.size)
            (y == was.size || row_may_change (grown was o) changes symbol x) e in
            let second = or_parts (y == was.size) (row_may_change (grown was o) changes symbol x) first.1 in
            let nx = without_last was.size x mx first.0 in
            let ny = without_last was.size y my second.0 in
            rw e (right.walks symbol x y was_walked nx ny ∙
            (sym (walk-grown was o symbol x y steps nx ny) ∙ sym
            (walk-stays (grown was o) now changes done c symbol x y
            (all.walks symbol was_walked) steps mx my second.1))))
      ]);
}
