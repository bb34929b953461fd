-- What is told of truths of facts together.
use Rattle.std.proofs.Common.{◌≡◌, ◌≢◌, ℕ, zero, suc, ◌<◌, Bool, true, false, ◌&&◌, ◌||◌, Some, List, [], ◌∷◌, refl, sym, ap, ap₂, ◌∙◌, inl, inr, arith, true≢false, slice_get}
use Rattle.std.specs.List.{list_any}
use Rattle.std.proofs.Math.Bool.{or-true}
use Rattle.std.proofs.lemmas.Bool.{cases_order, or_cases}
use Rattle.rf_values.specs.Truth.{conjunction, disjunction, may, must, truth_of}
use Rattle.rf_values.specs.declared.truth.Truth.{Truth}
use Rattle.rf_values.specs.declared.truth.Truth.TheVariants.{True, False, Unknown, Error}
use Rattle.rf_evaluate.specs.Evaluating.{some_truth}
use Rattle.rf_finite.proofs.Range.{None-ne_Some}
use Rattle.rf_evaluate.specs.Gathering.{Column, Must, May, Either, tells}
use Rattle.rf_evaluate.proofs.InBoth.{conjunction-False, conjunction-pair, disjunction-truth_of, may-truth_of, must-truth_of, truth_of-pair}
use Rattle.std.proofs.lemmas.Option.{same_Some}

and-assoc : (x y z : Bool) → (x && (y && z)) ≡ ((x && y) && z)
and-assoc true y z = refl
and-assoc false y z = refl

pub conjunction-assoc : (a b c : Truth) → conjunction a (conjunction b c) ≡ conjunction (conjunction a b) c
conjunction-assoc a b c = ap₂ truth_of
    (ap (λ x. must a && x) (must-truth_of (must b && must c) (may b && may c)) ∙ (and-assoc (must a) (must b) (must c)
    ∙ ap (λ x. x && must c) (sym (must-truth_of (must a && must b) (may a && may b)))))
    (ap (λ x. may a && x) (may-truth_of (must b && must c) (may b && may c)) ∙ (and-assoc (may a) (may b) (may c)
    ∙ ap (λ x. x && may c) (sym (may-truth_of (must a && must b) (may a && may b)))))

pub conjunction-True : (a : Truth) → conjunction True a ≡ a
conjunction-True True = refl
conjunction-True False = refl
conjunction-True Unknown = refl
conjunction-True Error = refl

and-or : (x y z : Bool) → (x && (y || z)) ≡ ((x && y) || (x && z))
and-or true y z = refl
and-or false y z = refl

-- one of two facts, together with a third
conjunction-disjunction : (a p q : Truth) → conjunction a (disjunction p q) ≡ disjunction (conjunction a p) (conjunction a q)
conjunction-disjunction a p q =
    conjunction-pair a (must p || must q) (may p || may q)
    ∙ ap₂ truth_of (and-or (must a) (must p) (must q)) (and-or (may a) (may p) (may q))
    ∙ sym (disjunction-truth_of (must a && must p) (may a && may p) (must a && must q) (may a && may q))

-- nothing is told of what is false
tells-nothing : (c : Column) → tells c False ≡ false
tells-nothing Must = refl
tells-nothing May = refl
tells-nothing Either = refl

pub tells-ne_False : (c : Column) (a : Truth) → tells c a ≡ true → a ≢ False
tells-ne_False c a h f = true≢false (sym h ∙ (ap (tells c) f ∙ tells-nothing c))

-- something is told of what isn't
pub tells-Either : (a : Truth) → a ≢ False → tells Either a ≡ true
tells-Either True h = refl
tells-Either False h = absurd (h refl)
tells-Either Unknown h = refl
tells-Either Error h = refl

or-swap : (w x y z : Bool) → ((w || x) || (y || z)) ≡ ((w || y) || (x || z))
or-swap true x y z = refl
or-swap false true true z = refl
or-swap false true false z = refl
or-swap false false y z = refl

pub tells-disjunction : (c : Column) (p q : Truth) → tells c (disjunction p q) ≡ (tells c p || tells c q)
tells-disjunction Must p q = must-truth_of (must p || must q) (may p || may q)
tells-disjunction May p q = may-truth_of (must p || must q) (may p || may q)
tells-disjunction Either p q =
    ap₂ (λ x y. x || y) (must-truth_of (must p || must q) (may p || may q)) (may-truth_of (must p || must q) (may p || may q))
    ∙ or-swap (must p) (must q) (may p) (may q)

-- what is told of two facts together is told of the first
pub tells-left : (c : Column) (a b : Truth) → tells c (conjunction a b) ≡ true → tells c a ≡ true
tells-left c False b h = absurd (tells-ne_False c False h refl)
tells-left Must Unknown b h = absurd (true≢false (sym h ∙ must-truth_of false (may b)))
tells-left May Unknown b h = refl
tells-left Either Unknown b h = refl
tells-left Must Error b h = refl
tells-left May Error b h = absurd (true≢false (sym h ∙ may-truth_of (must b) false))
tells-left Either Error b h = refl
tells-left Must True b h = refl
tells-left May True b h = refl
tells-left Either True b h = refl

-- truths of the same pair
pub same-pair : (a b : Truth) → must a ≡ must b → may a ≡ may b → a ≡ b
same-pair a b has_to can = sym (truth_of-pair a) ∙ (ap₂ truth_of has_to can ∙ truth_of-pair b)

module _ (c : Column) where
  -- what is told of one of some facts, together with another, is told of one that can be named
  pub one-from_some_truth : (a : Truth) (n : ℕ) (f : ℕ → Truth) → tells c (conjunction a (some_truth n f)) ≡ true
      → (i : ℕ) × (i < n) × (tells c (conjunction a (f i)) ≡ true)
  one-from_some_truth a zero f h = absurd (tells-ne_False c (conjunction a False) h (conjunction-False a))
  one-from_some_truth a (suc n) f h =
      let told = sym (ap (tells c) (conjunction-disjunction a (some_truth n f) (f n)) ∙ tells-disjunction c (conjunction a (some_truth n f)) (conjunction a (f n))) ∙ h in
      elim (or_cases (tells c (conjunction a (some_truth n f))) (tells c (conjunction a (f n))) told) [
        | inl some ↦ (let one = one-from_some_truth a n f some in
            let less : one.0 < n = one.1 in
            (one.0, omega (arith, less), one.2))
        | inr last ↦ (n, omega arith, last)
      ]

  -- and what is told of one is told of some
  pub some_truth-from_one : (a : Truth) (n : ℕ) (f : ℕ → Truth) (i : ℕ) → i < n → tells c (conjunction a (f i)) ≡ true → tells c (conjunction a (some_truth n f)) ≡ true
  some_truth-from_one a zero f i l h = absurd (omega arith)
  some_truth-from_one a (suc n) f i l h =
      ap (tells c) (conjunction-disjunction a (some_truth n f) (f n)) ∙ (tells-disjunction c (conjunction a (some_truth n f)) (conjunction a (f n))
      ∙ elim (cases_order i n) [
        | inl same ↦ ap (λ y. tells c (conjunction a (some_truth n f)) || y) (ap (λ (j : ℕ). tells c (conjunction a (f j))) (sym same) ∙ h)
            ∙ or-true (tells c (conjunction a (some_truth n f)))
        | inr s ↦ elim s [
          | inl less ↦ ap (λ y. y || tells c (conjunction a (f n))) (some_truth-from_one a n f i less h)
          | inr more ↦ absurd (omega arith)
        ]
      ])

  module _ {X : Type 0} (p r : X → Bool) where
    told-first : (x : X) (xs : List X) → tells c (truth_of (list_any p (x ∷ xs)) (list_any r (x ∷ xs)))
        ≡ (tells c (truth_of (p x) (r x)) || tells c (truth_of (list_any p xs) (list_any r xs)))
    told-first x xs = ap (tells c) (sym (disjunction-truth_of (p x) (r x) (list_any p xs) (list_any r xs)))
        ∙ tells-disjunction c (truth_of (p x) (r x)) (truth_of (list_any p xs) (list_any r xs))

    -- what is told of one of a list of facts is told of one that can be named
    pub one-from_list_any : (xs : List X) → tells c (truth_of (list_any p xs) (list_any r xs)) ≡ true
        → (place : ℕ) × (x : X) × (slice_get xs place ≡ Some x) × (tells c (truth_of (p x) (r x)) ≡ true)
    one-from_list_any [] h = absurd (tells-ne_False c False h refl)
    one-from_list_any (x ∷ xs) h =
        elim (or_cases (tells c (truth_of (p x) (r x))) (tells c (truth_of (list_any p xs) (list_any r xs))) (sym (told-first x xs) ∙ h)) [
          | inl here ↦ (0, x, refl, here)
          | inr later ↦ (let one = one-from_list_any xs later in (suc one.0, one.1, one.2, one.3))
        ]

    -- and what is told of one is told of the list
    pub list_any-from_one : (xs : List X) (place : ℕ) (x : X) → slice_get xs place ≡ Some x → tells c (truth_of (p x) (r x)) ≡ true
        → tells c (truth_of (list_any p xs) (list_any r xs)) ≡ true
    list_any-from_one [] place x there h = absurd (None-ne_Some there)
    list_any-from_one (y ∷ ys) zero x there h =
        told-first y ys ∙ ap (λ z. z || tells c (truth_of (list_any p ys) (list_any r ys)))
        (ap (λ z. tells c (truth_of (p z) (r z))) (same_Some y x there) ∙ h)
    list_any-from_one (y ∷ ys) (suc place) x there h =
        told-first y ys ∙ (ap (λ z. tells c (truth_of (p y) (r y)) || z) (list_any-from_one ys place x there h) ∙ or-true (tells c (truth_of (p y) (r y))))
