-- The steps of the search for tuples.
use Rattle.std.proofs.Common.{◌≡◌, ℕ, zero, suc, ◌+◌, ◌<◌, ◌≤◌, max, Bool, true, false, Some, List, [], ◌∷◌, ◌⊎◌, length, set, take, true≢false, get_or-set_same, get_or-set_other, refl, sym, ap, ◌∙◌, subst, inl, inr, arith, slice_get, slice_index, slice_index_or}
use Rattle.std.proofs.lemmas.Bool.{cases_lt, cases_order}
use Rattle.rf_values.specs.Truth.{conjunction}
use Rattle.rf_values.specs.declared.truth.Truth.{Truth}
use Rattle.rf_values.specs.declared.truth.Truth.TheVariants.{False}
use Rattle.rf_problem.specs.declared.predicate.Literal.{Literal}
use Rattle.rf_evaluate.specs.Elements.{count, element_at}
use Rattle.rf_evaluate.specs.declared.elements.Elements.{Elements}
use Rattle.rf_evaluate.specs.Evaluating.{AreCandidates, completed_value, literal_value, with_element, without_literal}
use Rattle.rf_evaluate.specs.Hunts.{AreClosed, GoesOn, IsPlaced, IsReached, IsReachedWith, value_with, with_tuple}
use Rattle.rf_evaluate.specs.Gathering.{Column, HasGathered, tells}
use Rattle.rf_evaluate.specs.Known.{Known}
use Rattle.rf_evaluate.specs.Terms.{names_unassigned}
use Rattle.rf_evaluate.specs.declared.stage.Body.{Body}
use Rattle.rf_evaluate.specs.declared.stage.Stage.{Stage}
use Rattle.rf_evaluate.proofs.Conjunctions.{tells-left, tells-ne_False}
use Rattle.rf_evaluate.proofs.Gathered.{IsTold, gathered-covered, gathered-none, gathered-same, gathered-then}
use Rattle.rf_evaluate.proofs.Reached.{IsFull, IsReached-before, IsReached-from_IsReachedWith, IsReached-closed, IsReached-without, IsReachedWith-from_IsReached, told-closed, tuple-closed}

-- what stands at a place of a list
pub one_at : {X : Type 0} (xs : List X) (i : ℕ) → i < length xs → (x : X) × (slice_get xs i ≡ Some x)
one_at [] i l = absurd (omega arith)
one_at (x ∷ xs) zero l = (x, refl)
one_at (x ∷ xs) (suc i) l = one_at xs i (omega arith)

-- elements stay such with one more
pub IsPlaced-with : (k : Known) (arity : ℕ) (s : Stage) (v x : ℕ) → IsFull s → v < 8 → x < k.size → IsPlaced k arity s → IsPlaced k arity (with_element s v x)
IsPlaced-with k arity s v x full l less h = record {
  elements = λ i. elim (cases_order i v) [
    | inl e ↦ subst (λ (j : ℕ). slice_index (set s.elements v x) j < max 1 k.size) (sym e)
        (subst (λ (y : ℕ). y < max 1 k.size) (sym (get_or-set_same s.elements v x 0 (omega (arith, full.elements)))) (omega arith))
    | inr o ↦ (let apart : i ≡ v → ⊥ = λ q. elim o [ inl lt ↦ absurd (omega arith) | inr gt ↦ absurd (omega arith) ] in
        subst (λ (y : ℕ). y < max 1 k.size) (sym (get_or-set_other s.elements v i x 0 (λ q. apart q))) (h.elements i))
  ];
  parameters = λ i m e. elim (cases_order i v) [
    | inl q ↦ subst (λ (j : ℕ). slice_index (set s.elements v x) j < k.size) (sym q)
        (subst (λ (y : ℕ). y < k.size) (sym (get_or-set_same s.elements v x 0 (omega (arith, full.elements)))) less)
    | inr o ↦ (let apart : i ≡ v → ⊥ = λ q. elim o [ inl lt ↦ absurd (omega arith) | inr gt ↦ absurd (omega arith) ] in
        subst (λ (y : ℕ). y < k.size) (sym (get_or-set_other s.elements v i x 0 (λ q. apart q)))
        (h.parameters i m (sym (get_or-set_other s.unassigned v i false false (λ q. apart q)) ∙ e)))
  ];
}

module _ {G : Type 0} (has covers : G → List ℕ → Column → Type 0) (k : Known) (b : Body) (passes : List ℕ → Bool) (arity : ℕ) (s : Stage) (value : Truth) (a : G) where
  -- where the value is false already
  pub gathered-False : value ≡ False → HasGathered has covers (IsReached k b passes arity s value) a a
  gathered-False e = gathered-none has covers (IsReached k b passes arity s value) a
      (λ t c h. tells-ne_False c (conjunction value (completed_value k b (with_tuple s t))) h.told (ap (λ (y : Truth). conjunction y (completed_value k b (with_tuple s t))) e))

  -- where what goes on is covered
  pub gathered-past : ((t : List ℕ) → length t ≡ arity → GoesOn s t → (c : Column) → covers a t c) → HasGathered has covers (IsReached k b passes arity s value) a a
  gathered-past all = gathered-covered has covers (IsReached k b passes arity s value) a (λ t c h. all t h.tuple.many h.goes_on c)

  -- where a literal is evaluated
  pub gathered-without : (i : ℕ) (l : Literal) (own more : Truth) (after : Stage) (z : G) → slice_index_or s.pending i false ≡ true → slice_get b.literals.now i ≡ Some l
      → names_unassigned s.unassigned l ≡ false → own ≡ literal_value k b i l (slice_index s.elements) → after ≡ without_literal s i → more ≡ conjunction value own
      → HasGathered has covers (IsReached k b passes arity after more) a z → HasGathered has covers (IsReached k b passes arity s value) a z
  gathered-without i l own more after z pending there ground is same also h =
      gathered-same has covers (IsReached k b passes arity (without_literal s i) (conjunction value own)) (IsReached k b passes arity s value) a z
      (λ t c r. IsReached-before k b passes arity s i l value own t c pending there ground is r)
      (λ t c r. IsReached-without k b passes arity s i l value own t c pending there ground is r)
      (subst (λ (r : Stage). HasGathered has covers (IsReached k b passes arity r (conjunction value own)) a z) same
      (subst (λ (m : Truth). HasGathered has covers (IsReached k b passes arity after m) a z) also h))

  module _ (full : IsFull s) (few : arity ≤ 4) (closed : AreClosed arity s) where
    -- where all parameters are assigned, and what can be told of their elements is covered
    pub gathered-settled : (u : List ℕ) → u ≡ take arity s.elements → ((c : Column) → tells c value ≡ true → covers a u c) → HasGathered has covers (IsReached k b passes arity s value) a a
    gathered-settled u same settled = gathered-covered has covers (IsReached k b passes arity s value) a
        (λ t c h. subst (λ (r : List ℕ). covers a r c) (same ∙ sym (tuple-closed k b passes arity s value t c full few closed h))
        (settled c (tells-left c value (completed_value k b s) (told-closed k b passes arity s value t c full few closed h))))

    -- or they don't pass
    pub gathered-failed : passes (take arity s.elements) ≡ false → HasGathered has covers (IsReached k b passes arity s value) a a
    gathered-failed failed = gathered-none has covers (IsReached k b passes arity s value) a
        (λ t c h. true≢false (sym h.passed ∙ (ap passes (tuple-closed k b passes arity s value t c full few closed h) ∙ failed)))

    -- or make the body false
    pub gathered-impossible : conjunction value (completed_value k b s) ≡ False → HasGathered has covers (IsReached k b passes arity s value) a a
    gathered-impossible impossible = gathered-none has covers (IsReached k b passes arity s value) a
        (λ t c h. tells-ne_False c (conjunction value (completed_value k b s)) (told-closed k b passes arity s value t c full few closed h) impossible)

    -- or are added
    pub gathered-added : (u : List ℕ) (met : Truth) (z : G) → IsPlaced k arity s → u ≡ take arity s.elements → passes u ≡ true → met ≡ conjunction value (completed_value k b s)
        → HasGathered has covers (IsTold u met) a z → HasGathered has covers (IsReached k b passes arity s value) a z
    gathered-added u met z placed same passed is h = gathered-same has covers (IsTold u met) (IsReached k b passes arity s value) a z
        (λ t c e. IsReached-closed k b passes arity s value t c full few placed closed (e.0 ∙ same) (ap passes e.0 ∙ passed) (ap (tells c) (sym is) ∙ e.1))
        (λ t c r. (tuple-closed k b passes arity s value t c full few closed r ∙ sym same, ap (tells c) is ∙ told-closed k b passes arity s value t c full few closed r))
        h

  module _ (v : ℕ) (elements : Elements) where
    -- with one more element for a variable
    pub gathered-with : (n x : ℕ) (more : Truth) (after : Stage) (y z : G) → x ≡ element_at elements n → after ≡ with_element s v x → more ≡ value_with k arity v value x
        → HasGathered has covers (IsReachedWith k b passes arity s value v elements n) a y
        → HasGathered has covers (IsReached k b passes arity after more) y z
        → HasGathered has covers (IsReachedWith k b passes arity s value v elements (n + 1)) a z
    gathered-with n x more after y z at same also h g =
        let Now = λ (e : ℕ). IsReached k b passes arity (with_element s v e) (value_with k arity v value e) in
        let now = subst (λ (e : ℕ). HasGathered has covers (Now e) y z) at
        (subst (λ (r : Stage). HasGathered has covers (IsReached k b passes arity r (value_with k arity v value x)) y z) same
        (subst (λ (m : Truth). HasGathered has covers (IsReached k b passes arity after m) y z) also g)) in
        gathered-same has covers (λ t c. IsReachedWith k b passes arity s value v elements n t c ⊎ Now (element_at elements n) t c)
        (IsReachedWith k b passes arity s value v elements (n + 1)) a z
        (λ t c either. elim either [
          | inl r ↦ (let l : r.number < n = r.before in record { number = r.number; before = omega (arith, l); reached = r.reached })
          | inr r ↦ record { number = n; before = omega arith; reached = r }
        ])
        (λ t c r. elim (cases_lt r.number n) [
          | inl l ↦ inl (record { number = r.number; before = l; reached = r.reached })
          | inr m ↦ (let l : r.number < n + 1 = r.before in let e : r.number ≡ n = omega (arith, l) in
              inr (subst (λ (i : ℕ). IsReached k b passes arity (with_element s v (element_at elements i)) (value_with k arity v value (element_at elements i)) t c) e r.reached))
        ])
        (gathered-then has covers (IsReachedWith k b passes arity s value v elements n) (Now (element_at elements n)) a y z h now)

    -- with none of them
    pub gathered-with_none : HasGathered has covers (IsReachedWith k b passes arity s value v elements 0) a a
    gathered-with_none = gathered-none has covers (IsReachedWith k b passes arity s value v elements 0) a
        (λ t c r. let l : r.number < 0 = r.before in absurd (omega (arith, l)))

    -- with all of them
    pub gathered-with_all : (n : ℕ) (z : G) → IsFull s → arity ≤ 4 → AreCandidates k b s v elements → n ≡ count elements
        → HasGathered has covers (IsReachedWith k b passes arity s value v elements n) a z → HasGathered has covers (IsReached k b passes arity s value) a z
    gathered-with_all n z full few candidates all h =
        gathered-same has covers (IsReachedWith k b passes arity s value v elements n) (IsReached k b passes arity s value) a z
        (λ t c r. IsReached-from_IsReachedWith k b passes arity s value v elements n t c full few candidates (omega (arith, all)) r)
        (λ t c r. subst (λ (m : ℕ). IsReachedWith k b passes arity s value v elements m t c) (sym all)
        (IsReachedWith-from_IsReached k b passes arity s value v elements t c full few candidates r))
        h
