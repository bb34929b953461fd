-- One of some elements, where the others don't count.
use Rattle.std.proofs.Common.{◌≡◌, ℕ, zero, suc, ◌<◌, Bool, true, false, ◌==◌, List, [], ◌∷◌, length, slice_index, refl, sym, ap, ap₂, ◌∙◌, subst, inl, inr, arith, true≢false}
use Rattle.std.specs.List.{list_any}
use Rattle.std.proofs.lemmas.Bool.{cases_Bool, eqb-true, ltb-true, or_cases}
use Rattle.rf_finite.specs.Range.{some_below}
use Rattle.rf_finite.proofs.Range.{each-from_some_below, one-from_some_below, some_below-from_one, some_below-none}
use Rattle.rf_values.specs.Truth.{may, must, truth_of}
use Rattle.rf_values.specs.declared.truth.Truth.{Truth}
use Rattle.rf_values.specs.declared.truth.Truth.TheVariants.{False}
use Rattle.rf_evaluate.specs.Elements.{AreBelow, count, element_at, includes}
use Rattle.rf_evaluate.specs.declared.elements.Elements.{Elements}
use Rattle.rf_evaluate.specs.declared.elements.Elements.TheVariants.{Below, Listed}
use Rattle.rf_evaluate.specs.Evaluating.{some_truth}
use Rattle.rf_evaluate.proofs.InBoth.{some_truth-pair}

-- a number that stands in a list, by its place
place-of : (x : ℕ) (xs : List ℕ) → list_any (λ y. y == x) xs ≡ true → (i : ℕ) × (i < length xs) × (slice_index xs i ≡ x)
place-of x [] h = absurd (true≢false (sym h))
place-of x (y ∷ xs) h = elim (or_cases (y == x) (list_any (λ z. z == x) xs) h) [
  | inl e ↦ (zero, omega arith, eqb-true y x e)
  | inr e ↦ (let r = place-of x xs e in let l = r.1 in (suc r.0, omega arith, r.2))
]

-- an element that is one of them, by its number
pub number-of : (elements : Elements) (x : ℕ) → includes elements x ≡ true → (i : ℕ) × (i < count elements) × (element_at elements i ≡ x)
number-of (Below n) x h = (x, ltb-true x n h, refl)
number-of (Listed items) x h = place-of x items.now h

-- each of them is below n
pub element_at-below : (n : ℕ) (elements : Elements) (i : ℕ) → AreBelow n elements → i < count elements → element_at elements i < n
element_at-below n (Below m) i below l = omega arith
element_at-below n (Listed items) i below l = below i 0 l

-- where no other number passes, one of all numbers does where one of them does
some_below-among : (n : ℕ) (p : ℕ → Bool) (elements : Elements) → AreBelow n elements → ((x : ℕ) → x < n → includes elements x ≡ false → p x ≡ false)
    → some_below n p ≡ some_below (count elements) (λ i. p (element_at elements i))
some_below-among n p elements below off = elim (cases_Bool (some_below (count elements) (λ i. p (element_at elements i)))) [
  | inl t ↦
      (let one = one-from_some_below (count elements) (λ i. p (element_at elements i)) t in
      some_below-from_one n p (element_at elements one.0) (element_at-below n elements one.0 below one.1) one.2 ∙ sym t)
  | inr f ↦ some_below-none n p (λ x l. elim (cases_Bool (includes elements x)) [
    | inl h ↦ (let r = number-of elements x h in
        subst (λ (y : ℕ). p y ≡ false) r.2 (each-from_some_below (count elements) (λ i. p (element_at elements i)) f r.0 r.1))
    | inr h ↦ off x l h
  ]) ∙ sym f
]

pub some_truth-among : (n : ℕ) (f : ℕ → Truth) (elements : Elements) → AreBelow n elements → ((x : ℕ) → x < n → includes elements x ≡ false → f x ≡ False)
    → some_truth n f ≡ some_truth (count elements) (λ i. f (element_at elements i))
some_truth-among n f elements below off =
    some_truth-pair n f
    ∙ ap₂ truth_of
    (some_below-among n (λ x. must (f x)) elements below (λ x l h. ap must (off x l h)))
    (some_below-among n (λ x. may (f x)) elements below (λ x l h. ap may (off x l h)))
    ∙ sym (some_truth-pair (count elements) (λ i. f (element_at elements i)))
