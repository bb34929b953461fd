-- The tuples at which a predicate may be broken.
use Rattle.std.proofs.Common.{◌≡◌, ◌≢◌, ◌⊎◌, ℕ, suc, ◌+◌, ◌<◌, ◌≤◌, Bool, true, false, nat_le, Option, List, [], ◌∷◌, All, length, map, get_or, refl, sym, ap, ◌∙◌, subst, inl, inr, arith, true≢false}
use Rattle.std.proofs.lemmas.Bool.{and_parts, both_ways, cases_order, leb-true}
use Rattle.std.proofs.lemmas.List.{get_or-map, length-map}
use Rattle.std.proofs.lemmas.List.Elements.{All-cons, All-nil}
use Rattle.rf_finite.specs.Tuples.{IsTuple}
use Rattle.rf_values.specs.Truth.{merge}
use Rattle.rf_values.specs.declared.truth.Truth.{Truth}
use Rattle.rf_values.specs.declared.truth.Truth.TheVariants.{True, False, Unknown, Error}
use Rattle.rf_problem.specs.Asserted.{asserted}
use Rattle.rf_problem.specs.Parts.{predicate_at}
use Rattle.rf_problem.specs.declared.problem.Problem.{Problem}
use Rattle.rf_problem.specs.declared.symbol.Symbol.TheVariants.{Predicate as Defined}
use Rattle.rf_state.specs.State.{State}
use Rattle.rf_state.specs.StateKnown.{value}
use Rattle.rf_state.specs.Values.{AreValues, IsNotFalseAt, may_have_node}
use Rattle.rf_rules.specs.Predicates.{are_there, origins_of}
use Rattle.rf_rules.specs.Words.{is_error, lo}
use Rattle.rf_prop_broken.specs.Asserting.{has_true, is_affirmed}
use Rattle.rf_prop_broken.specs.Best.{Improves, fires_at}
use Rattle.rf_prop_broken.specs.Looking.{MayBeThere}
use Rattle.rf_prop_broken.specs.declared.instances.Instances.TheVariants.{Broken}
use Rattle.rf_prop_broken.proofs.AssertingLemmas.{affirmed-from_asserted}
use Rattle.rf_prop_broken.proofs.BestLemmas.{improves-failed, improves-none, improves-then, improves-weaker}
use Rattle.rf_prop_broken.proofs.FireLemmas.{broken-parts}

abbrev pub tuples_of : List (List ℕ × Truth) → List (List ℕ)
tuples_of values = map (λ (e : List ℕ × Truth). e.0) values

-- a tuple is one of the first n of these
abbrev pub IsListedBelow : List (List ℕ × Truth) → ℕ → List ℕ → Type 0
IsListedBelow values n t = (k : ℕ) × (k < n) × (get_or (tuples_of values) k t ≡ t)

-- one more of them
listed_more : (values : List (List ℕ × Truth)) (i : ℕ) (e : List ℕ × Truth) → i < length values → get_or values i e ≡ e → (t : List ℕ)
    → IsListedBelow values (i + 1) t → IsListedBelow values i t ⊎ (t ≡ e.0)
listed_more values i e l at t h = elim (cases_order h.0 i) [
  | inl same ↦ inr (sym h.2 ∙ (subst (λ (k : ℕ). get_or (tuples_of values) k t ≡ get_or (tuples_of values) i t) (sym same) refl
      ∙ (get_or-map (λ (x : List ℕ × Truth). x.0) values i e t l ∙ ap (λ (x : List ℕ × Truth). x.0) at)))
  | inr apart ↦ elim apart [
    | inl before ↦ inl (h.0, before, h.2)
    | inr after ↦ (let m = h.1 in absurd (omega (arith, m, after)))
  ]
]

module _ (p : Problem) (s : State) (q : ℕ) where
  abbrev passes : List ℕ → Bool
  passes = fires_at p s (Broken q)

  -- so many of them are gone over
  pub listed-none : (values : List (List ℕ × Truth)) (o : Option (List ℕ)) → Improves passes (IsListedBelow values 0) o o
  listed-none values o = improves-none passes (IsListedBelow values 0) o (λ t h. let l = h.1 in absurd (omega (arith, l)))

  pub listed-next : (values : List (List ℕ × Truth)) (i : ℕ) (e : List ℕ × Truth) (o m n : Option (List ℕ)) → i < length values → get_or values i e ≡ e
      → Improves passes (IsListedBelow values i) o m → Improves passes (λ t. t ≡ e.0) m n → Improves passes (IsListedBelow values (i + 1)) o n
  listed-next values i e o m n l at before now =
      improves-weaker passes (λ t. IsListedBelow values i t ⊎ (t ≡ e.0)) (IsListedBelow values (i + 1)) o n (λ t h b. listed_more values i e l at t h)
      (improves-then passes (IsListedBelow values i) (λ t. t ≡ e.0) o m n before now)

  -- a tuple whose value isn't contradicted isn't broken
  pub uncontradicted : (t : List ℕ) (v : Truth) (o : Option (List ℕ)) → v ≡ value p s q t → is_error (merge (asserted p (Defined q) (origins_of s t)) v) ≡ false
      → Improves passes (λ u. u ≡ t) o o
  uncontradicted t v o e h = improves-failed passes t o (fails (passes t) refl)
    where
      fails : (b : Bool) → passes t ≡ b → passes t ≡ false
      fails false f = f
      fails true f = absurd (both_ways (is_error (merge (asserted p (Defined q) (origins_of s t)) v)) h
          (ap (λ w. is_error (merge (asserted p (Defined q) (origins_of s t)) w)) e ∙ (broken-parts p s q t f).error))

  -- each object of a broken tuple may be there
  nodes-of : MayBeThere s → (t : List ℕ) → All (λ o. o < length s.objects) t → are_there s t ≡ true → All (λ o. may_have_node s o ≡ true) t
  nodes-of may [] below there = All-nil (λ o. may_have_node s o ≡ true)
  nodes-of may (o ∷ t) below there =
      let parts = and_parts (nat_le 1 (lo s o)) (are_there s t) there in
      let l : o < length s.objects = below 0 0 (omega arith) in
      All-cons (λ x. may_have_node s x ≡ true) o t (may o l (leb-true 1 (lo s o) parts.0)) (nodes-of may t (λ i d m. below (suc i) d (omega (arith, m))) parts.1)

  -- all tuples at which the value isn't false are there
  pub listed-all : (values : List (List ℕ × Truth)) (n : ℕ) (o b : Option (List ℕ)) → AreValues p s q values → MayBeThere s → length values ≤ n
      → Improves passes (IsListedBelow values n) o b → Improves passes (λ t. value p s q t ≢ False) o b
  listed-all values n o b are may past h = improves-weaker passes (IsListedBelow values n) (λ t. value p s q t ≢ False) o b each h
    where
      each : (t : List ℕ) → value p s q t ≢ False → passes t ≡ true → IsListedBelow values n t
      each t other f =
          let parts = broken-parts p s q t f in
          let here : IsNotFalseAt p s q t = record { tuple = parts.tuple; nodes = nodes-of may t parts.tuple.below parts.there; value = other } in
          let found = (are.tuples.members t).1 here in
          let l = found.1 in
          let long : length (tuples_of values) ≡ length values = length-map values (λ (x : List ℕ × Truth). x.0) in
          (found.0, omega (arith, l, long, past), found.2)

  -- what is listed is a tuple of objects that are there
  pub listed-tuple : (values : List (List ℕ × Truth)) (i : ℕ) (e : List ℕ × Truth) → AreValues p s q values → i < length values → get_or values i e ≡ e
      → IsTuple (length s.objects) (predicate_at p.predicates q).arity e.0
  listed-tuple values i e are l at =
      let long : length (tuples_of values) ≡ length values = length-map values (λ (x : List ℕ × Truth). x.0) in
      let same : get_or (tuples_of values) i e.0 ≡ e.0 =
      get_or-map (λ (x : List ℕ × Truth). x.0) values i e e.0 l ∙ ap (λ (x : List ℕ × Truth). x.0) at in
      ((are.tuples.members e.0).0 (i, omega (arith, l, long), same)).tuple

  pub listed-value : (values : List (List ℕ × Truth)) (i : ℕ) (e : List ℕ × Truth) → AreValues p s q values → i < length values → get_or values i e ≡ e
      → e.1 ≡ value p s q e.0
  listed-value values i e are l at = subst (λ (x : List ℕ × Truth). x.1 ≡ value p s q x.0) at (are.each i e l)

  -- where the value is false, something is asserted to hold
  has_true-from_error : (a : Truth) → is_error (merge a False) ≡ true → has_true a ≡ true
  has_true-from_error True h = refl
  has_true-from_error False h = absurd (true≢false (sym h))
  has_true-from_error Unknown h = absurd (true≢false (sym h))
  has_true-from_error Error h = refl

  either-value : (v : Truth) → (v ≡ False) ⊎ (v ≢ False)
  either-value False = inl refl
  either-value True = inr (λ e. cc)
  either-value Unknown = inr (λ e. cc)
  either-value Error = inr (λ e. cc)

  pub broken-all : (arity : ℕ) (o m n : Option (List ℕ)) → Improves passes (λ t. value p s q t ≢ False) o m → Improves passes (λ t. is_affirmed p q (origins_of s t) ≡ true) m n
      → Improves passes (λ t. length t ≡ arity) o n
  broken-all arity o m n first second =
      improves-weaker passes (λ t. (value p s q t ≢ False) ⊎ (is_affirmed p q (origins_of s t) ≡ true)) (λ t. length t ≡ arity) o n each
      (improves-then passes (λ t. value p s q t ≢ False) (λ t. is_affirmed p q (origins_of s t) ≡ true) o m n first second)
    where
      each : (t : List ℕ) → length t ≡ arity → passes t ≡ true → (value p s q t ≢ False) ⊎ (is_affirmed p q (origins_of s t) ≡ true)
      each t long f = elim (either-value (value p s q t)) [
        | inl e ↦ inr (affirmed-from_asserted p q (origins_of s t) (has_true-from_error (asserted p (Defined q) (origins_of s t))
            (ap (λ w. is_error (merge (asserted p (Defined q) (origins_of s t)) w)) (sym e) ∙ (broken-parts p s q t f).error)))
        | inr e ↦ inl e
      ]
