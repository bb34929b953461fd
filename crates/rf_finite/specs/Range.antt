-- Tests, counts, sums and first values over the numbers below a bound.
use Rattle.std.specs.Prelude.{◌≡◌, ◌↔◌, ℕ, zero, suc, ◌+◌, ◌<◌, Bool, true, false, if◌then◌else◌, ◌&&◌, ◌||◌, Option, Some, None, List, length, Contains}
use Rattle.std.specs.Option.{option_or}
use Rattle.rf_finite.specs.Lists.{HasNoRepeats}

-- whether some number below n passes
abbrev pub some_below : ℕ → (ℕ → Bool) → Bool
some_below zero p = false
some_below (suc n) p = some_below n p || p n

-- whether each number below n passes
abbrev pub all_below : ℕ → (ℕ → Bool) → Bool
all_below zero p = true
all_below (suc n) p = all_below n p && p n

-- how many numbers below n pass
abbrev pub count_below : ℕ → (ℕ → Bool) → ℕ
count_below zero p = 0
count_below (suc n) p = count_below n p + (if p n then 1 else 0)

-- the sum of f over the numbers below n that pass
abbrev pub sum_below : ℕ → (ℕ → Bool) → (ℕ → ℕ) → ℕ
sum_below zero p f = 0
sum_below (suc n) p f = sum_below n p f + (if p n then f n else 0)

-- the value of f at the least number below n where it has one
abbrev pub first_below : {A : Type 0} → ℕ → (ℕ → Option A) → Option A
first_below zero f = None
first_below (suc n) f = option_or (first_below n f) (f n)

-- v is the value of f at a number below n before which no number has one
abbrev pub IsFirstValue : {A : Type 0} → ℕ → (ℕ → Option A) → A → Type 0
IsFirstValue n f v = (k : ℕ) × (k < n) × (f k ≡ Some v) × ((j : ℕ) → j < k → f j ≡ None)

-- the test of some number finds one exactly where one passes
abbrev pub SomeBelowIsSome : Type 0
SomeBelowIsSome =
    (n : ℕ) (p : ℕ → Bool) → (some_below n p ≡ true) ↔ ((k : ℕ) × (k < n) × (p k ≡ true))

-- the test of all numbers passes exactly where each does
abbrev pub AllBelowIsEach : Type 0
AllBelowIsEach =
    (n : ℕ) (p : ℕ → Bool) → (all_below n p ≡ true) ↔ ((k : ℕ) → k < n → p k ≡ true)

-- the first value is that of the least number that has one
abbrev pub FirstBelowIsLeast : Type 0 → Type 0
FirstBelowIsLeast A =
    (n : ℕ) (f : ℕ → Option A) (v : A) → (first_below n f ≡ Some v) ↔ IsFirstValue n f v

-- and there is none exactly where no number has one
abbrev pub FirstBelowIsNone : Type 0 → Type 0
FirstBelowIsNone A =
    (n : ℕ) (f : ℕ → Option A) → (first_below n f ≡ None) ↔ ((k : ℕ) → k < n → f k ≡ None)

-- the count is the length of a list of the numbers that pass, each once
abbrev pub CountBelowIsLength : Type 0
CountBelowIsLength =
    (n : ℕ) (p : ℕ → Bool)
    → (xs : List ℕ) × HasNoRepeats xs
    × ((x : ℕ) → Contains xs x ↔ ((x < n) × (p x ≡ true)))
    × (count_below n p ≡ length xs)
