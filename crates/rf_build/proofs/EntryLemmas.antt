-- The one position at which an item passes, where there is one alone.
use Rattle.std.proofs.Common.{◌≡◌, ◌≢◌, ◌<◌, ◌+◌, ◌∙◌, ℕ, zero, suc, Bool, true, false, List, [], ◌∷◌, ◌++◌, length, map, get_or, cond, None, Some, arith, refl, sym, ap, inl, inr}
use Rattle.std.specs.Prelude.{count_by, nat_lt, position}
use Rattle.std.specs.List.{position_or_len, range_with_len}
use Rattle.std.proofs.lemmas.Bool.{cases_Bool, lt-ltb}
use Rattle.std.proofs.lemmas.List.Sums.{sum_by-cons}
use Rattle.rf_names.specs.LookUp.{numbers_where}
use Rattle.rf_build.specs.Resolved.{only_one}

pub counted : {X : Type 0} (p : X → Bool) (x : X) (xs : List X) → count_by p (x ∷ xs)
    ≡ cond (p x) 1 0 + count_by p xs
counted p x xs = sum_by-cons (λ y. cond (p y) 1 0) x xs

pub counted_one : {X : Type 0} (p : X → Bool) (x : X) (xs : List X) → p x ≡ true → count_by p (x ∷ xs) ≡ suc (count_by p xs)
counted_one p x xs h = counted p x xs ∙ ap (λ b. cond b 1 0 + count_by p xs) h ∙ omega arith

pub counted_none : {X : Type 0} (p : X → Bool) (x : X) (xs : List X) → p x ≡ false → count_by p (x ∷ xs) ≡ count_by p xs
counted_none p x xs h = counted p x xs ∙ ap (λ b. cond b 1 0 + count_by p xs) h ∙ omega arith

numbered : {X : Type 0} (p : X → Bool) (n : ℕ) (x : X) (xs : List X) →
    length (numbers_where n p (x ∷ xs)) ≡ cond (p x) 1 0 + length (numbers_where (suc n) p xs)
numbered p n x xs = elim (cases_Bool (p x)) [
  | inl e ↦ rw e (omega arith)
  | inr e ↦ rw e
      (omega arith)
]

length-numbers_where : {X : Type 0} (p : X → Bool) (n : ℕ) (xs : List X) →
    length (numbers_where n p xs) ≡ count_by p xs
length-numbers_where p n [] = refl
length-numbers_where p n (x ∷ xs) =
    numbered p n x xs ∙ ap (λ k. cond (p x) 1 0 + k) (length-numbers_where p (suc n) xs)
    ∙ sym (counted p x xs)

-- the first of the numbers is that of the first position
first-numbers_where : {X : Type 0} (p : X → Bool) (n : ℕ) (xs : List X) →
    0 < length (numbers_where n p xs) →
    (get_or (numbers_where n p xs) 0 0 ≡ n + position_or_len p xs) ×
    (position_or_len p xs < length xs)
first-numbers_where p n [] some = absurd (omega arith)
first-numbers_where p n (x ∷ xs) some = elim (cases_Bool (p x)) [
  | inl e ↦ rw e (omega arith, omega arith)
  | inr e ↦ (let rest = first-numbers_where p (suc n) xs (rw e at some) in
      rw e (omega arith, omega arith))
]

only_one-alone : (js : List ℕ) → length js ≡ 1 → only_one js ≡ Some (get_or js 0 0)
only_one-alone [] one = absurd (omega arith)
only_one-alone (j ∷ []) one = refl
only_one-alone (j ∷ k ∷ js) one = absurd (omega arith)

only_one-not_alone : (js : List ℕ) → length js ≢ 1 → only_one js ≡ None
only_one-not_alone [] other = refl
only_one-not_alone (j ∷ []) other = absurd (other refl)
only_one-not_alone (j ∷ k ∷ js) other = refl

pub only_one-position : {X : Type 0} (p : X → Bool) (xs : List X) → count_by p xs ≡ 1 →
    only_one (numbers_where 0 p xs) ≡ position p xs
only_one-position p xs one =
    let long = length-numbers_where p 0 xs in
    let first = first-numbers_where p 0 xs (omega arith) in
    let number : get_or (numbers_where 0 p xs) 0 0 ≡ position_or_len p xs =
    omega (arith, first.0) in
    let within : nat_lt (position_or_len p xs) (length xs) ≡ true =
    lt-ltb (position_or_len p xs) (length xs) first.1 in
    only_one-alone (numbers_where 0 p xs) (omega arith) ∙ ap (λ n. Some n) number ∙ rw within refl

pub only_one-none : {X : Type 0} (p : X → Bool) (xs : List X) → count_by p xs ≢ 1 →
    only_one (numbers_where 0 p xs) ≡ None
only_one-none p xs other =
    let long = length-numbers_where p 0 xs in
    only_one-not_alone (numbers_where 0 p xs) (λ e. other (omega arith))

pub ruleset only_one_cases = (only_one-position, only_one-none)

-- one entry more
made-snoc : {X : Type 0} (f : ℕ → X) (a n : ℕ) → map f (range_with_len a (suc n))
    ≡ map f (range_with_len a n) ++ f (a + n) ∷ []
made-snoc f a zero = let e : a ≡ a + 0 = omega arith in ap (λ k. f k ∷ []) e
made-snoc f a (suc n) =
    let e : a + 1 + n ≡ a + suc n = omega arith in
    ap (λ ys. f a ∷ ys) (made-snoc f (a + 1) n
    ∙ ap (λ k. map f (range_with_len (a + 1) n) ++ f k ∷ []) e)

pub entries_more : {X : Type 0} (f : ℕ → X) (n : ℕ) → map f (range_with_len 0 (n + 1))
    ≡ map f (range_with_len 0 n) ++ f n ∷ []
entries_more f n =
    let e : n + 1 ≡ suc n = omega arith in
    let z : 0 + n ≡ n = omega arith in
    ap (λ k. map f (range_with_len 0 k)) e ∙ made-snoc f 0 n
    ∙ ap (λ k. map f (range_with_len 0 n) ++ f k ∷ []) z
