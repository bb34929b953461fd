-- What holds of sums over the numbers below a bound, and of sums of ends.
use Rattle.std.specs.Prelude.{◌≡◌, ◌↔◌, ℕ, ◌+◌, ◌<◌, ◌≤◌, Bool, true, if◌then◌else◌, ◌&&◌, not, ◌==◌, Option, None, Some}
use Rattle.rf_finite.specs.Ends.{within, add_ends, ends_below}
use Rattle.rf_finite.specs.Range.{sum_below}

-- the sum is the term of one number, where it passes, and the sum of the others
abbrev pub SumIsTermAndOthers : Type 0
SumIsTermAndOthers =
    (n : ℕ) (p : ℕ → Bool) (f : ℕ → ℕ) (k : ℕ) → k < n
    → sum_below n p f ≡ (if p k then f k else 0) + sum_below n (λ j. not (j == k) && p j) f

-- it is that of the numbers that pass a second test, and that of those that don't
abbrev pub SumIsSplit : Type 0
SumIsSplit =
    (n : ℕ) (p q : ℕ → Bool) (f : ℕ → ℕ)
    → sum_below n p f ≡ sum_below n (λ k. p k && q k) f + sum_below n (λ k. p k && not (q k)) f

-- it is no less where no fewer numbers pass and no term is less
abbrev pub SumIsMonotone : Type 0
SumIsMonotone =
    (m n : ℕ) (p q : ℕ → Bool) (f g : ℕ → ℕ) → m ≤ n
    → ((k : ℕ) → k < m → p k ≡ true → (q k ≡ true) × (f k ≤ g k)) → sum_below m p f ≤ sum_below n q g

-- it depends on the test, and on the terms of the numbers that pass
abbrev pub SumIsPointwise : Type 0
SumIsPointwise =
    (n : ℕ) (p q : ℕ → Bool) (f g : ℕ → ℕ) → ((k : ℕ) → k < n → p k ≡ q k)
    → ((k : ℕ) → k < n → p k ≡ true → f k ≡ g k) → sum_below n p f ≡ sum_below n q g

-- ends sum to none exactly where a number that passes has none
abbrev pub EndsAreUnboundedWhereOneIs : Type 0
EndsAreUnboundedWhereOneIs =
    (n : ℕ) (p : ℕ → Bool) (f : ℕ → Option ℕ)
    → (ends_below n p f ≡ None) ↔ ((k : ℕ) × (k < n) × (p k ≡ true) × (f k ≡ None))

-- and where each has one, they sum as numbers do
abbrev pub EndsSumAsNumbers : Type 0
EndsSumAsNumbers =
    (n : ℕ) (p : ℕ → Bool) (f : ℕ → Option ℕ) (g : ℕ → ℕ)
    → ((k : ℕ) → k < n → p k ≡ true → f k ≡ Some (g k)) → ends_below n p f ≡ Some (sum_below n p g)

-- the sum of ends is the end of one number, where it passes, and the sum of the others
abbrev pub EndsAreEndAndOthers : Type 0
EndsAreEndAndOthers =
    (n : ℕ) (p : ℕ → Bool) (f : ℕ → Option ℕ) (k : ℕ) → k < n
    → ends_below n p f ≡ add_ends (if p k then f k else Some 0) (ends_below n (λ j. not (j == k) && p j) f)

-- it is that of the numbers that pass a second test, and that of those that don't
abbrev pub EndsAreSplit : Type 0
EndsAreSplit =
    (n : ℕ) (p q : ℕ → Bool) (f : ℕ → Option ℕ)
    → ends_below n p f ≡ add_ends (ends_below n (λ k. p k && q k) f) (ends_below n (λ k. p k && not (q k)) f)

-- what is within one end is within the other
abbrev pub IsNoGreaterEnd : Option ℕ → Option ℕ → Type 0
IsNoGreaterEnd a b = (m : ℕ) → within m a ≡ true → within m b ≡ true

-- it is no less where no fewer numbers pass and no end is less
abbrev pub EndsAreMonotone : Type 0
EndsAreMonotone =
    (m n : ℕ) (p q : ℕ → Bool) (f g : ℕ → Option ℕ) → m ≤ n
    → ((k : ℕ) → k < m → p k ≡ true → (q k ≡ true) × IsNoGreaterEnd (f k) (g k))
    → IsNoGreaterEnd (ends_below m p f) (ends_below n q g)

-- it depends on the test, and on the ends of the numbers that pass
abbrev pub EndsArePointwise : Type 0
EndsArePointwise =
    (n : ℕ) (p q : ℕ → Bool) (f g : ℕ → Option ℕ) → ((k : ℕ) → k < n → p k ≡ q k)
    → ((k : ℕ) → k < n → p k ≡ true → f k ≡ g k) → ends_below n p f ≡ ends_below n q g

-- terms that are each within an end sum to a number within the sum of the ends
abbrev pub SumIsWithinEnds : Type 0
SumIsWithinEnds =
    (n : ℕ) (p : ℕ → Bool) (f : ℕ → ℕ) (ends : ℕ → Option ℕ)
    → ((k : ℕ) → k < n → p k ≡ true → within (f k) (ends k) ≡ true)
    → within (sum_below n p f) (ends_below n p ends) ≡ true
