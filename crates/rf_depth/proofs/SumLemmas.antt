-- Counts and sums over the numbers below a bound: what makes one less than another, and how great one can be.
use Rattle.std.proofs.Common.{◌≡◌, ℕ, zero, suc, ◌+◌, ◌*◌, ◌≤◌, ◌<◌, Bool, true, false, cond, not, ◌&&◌, eqb, refl, subst, inl, inr, arith}
use Rattle.std.proofs.lemmas.Bool.{and_from, and_parts, cases_Bool, cases_lt}
use Rattle.rf_finite.specs.Range.{count_below, sum_below}
use Rattle.rf_finite.proofs.Range.{below_or_last, count_below-le_bound, sum_below-more}
use Rattle.rf_finite.proofs.Sums.{sum_below-others, sum_below-without}

-- a count is a sum of ones
count_below-ones : (n : ℕ) (p : ℕ → Bool) → count_below n p ≡ sum_below n p (λ k. 1)
count_below-ones zero p = refl
count_below-ones (suc n) p = let rest = count_below-ones n p in rw rest refl

-- a sum is less where no fewer numbers pass, no term is less, and one has more to it
pub sum_below-less : (m n : ℕ) (p q : ℕ → Bool) (f g : ℕ → ℕ) (o : ℕ) → m ≤ n → ((k : ℕ) → k < m → p k ≡ true → (q k ≡ true) × (f k ≤ g k))
    → o < m → q o ≡ true → cond (p o) (f o) 0 < g o → sum_below m p f < sum_below n q g
sum_below-less m n p q f g o le h l passes less =
    let a = sum_below-others m p f o l in
    let there : o < n = omega arith in
    let b = sum_below-without n q g o there passes in
    let c = sum_below-more m n (λ j. not (eqb j o) && p j) (λ j. not (eqb j o) && q j) f g le (λ k lk e.
    let both = and_parts (not (eqb k o)) (p k) e in let r = h k lk both.1 in (and_from (not (eqb k o)) (q k) both.0 r.0, r.1)) in
    omega arith

pub count_below-more : (m n : ℕ) (p q : ℕ → Bool) → m ≤ n → ((k : ℕ) → k < m → p k ≡ true → q k ≡ true) → count_below m p ≤ count_below n q
count_below-more m n p q le h =
    let a = count_below-ones m p in
    let b = count_below-ones n q in
    let c = sum_below-more m n p q (λ k. 1) (λ k. 1) le (λ k l e. (h k l e, omega arith)) in omega arith

pub count_below-less : (m n : ℕ) (p q : ℕ → Bool) (o : ℕ) → m ≤ n → ((k : ℕ) → k < m → p k ≡ true → q k ≡ true) → o < m → p o ≡ false → q o ≡ true
    → count_below m p < count_below n q
count_below-less m n p q o le h l fails passes =
    let a = count_below-ones m p in
    let b = count_below-ones n q in
    let c = sum_below-less m n p q (λ k. 1) (λ k. 1) o le (λ k lk e. (h k lk e, omega arith)) l passes (rw fails (omega arith)) in omega arith

-- terms of at least 1 add up to the count at least
pub count_below-le_sum : (n : ℕ) (p q : ℕ → Bool) (f : ℕ → ℕ) → ((k : ℕ) → k < n → p k ≡ true → (q k ≡ true) × (1 ≤ f k)) → count_below n p ≤ sum_below n q f
count_below-le_sum n p q f h =
    let a = count_below-ones n p in let b = sum_below-more n n p q (λ k. 1) f (omega arith) h in omega arith

-- and terms of at most c to at most c for each that passes
pub sum_below-times : (n : ℕ) (p : ℕ → Bool) (f : ℕ → ℕ) (c : ℕ) → ((k : ℕ) → k < n → p k ≡ true → f k ≤ c) → sum_below n p f ≤ count_below n p * c
sum_below-times zero p f c h = omega arith
sum_below-times (suc n) p f c h =
    let rest = sum_below-times n p f c (λ k l. h k (omega arith)) in
    elim (cases_Bool (p n)) [
      | inl e ↦ (let here = h n (omega arith) e in rw e (omega arith))
      | inr e ↦ rw e (omega arith)
    ]

-- where all from m on pass, so many do
pub count_below-from : (m n : ℕ) (p : ℕ → Bool) → ((k : ℕ) → m ≤ k → k < n → p k ≡ true) → n ≤ m + count_below n p
count_below-from m zero p h = omega arith
count_below-from m (suc n) p h = elim (cases_lt n m) [
  | inl lt ↦ omega arith
  | inr ge ↦ (let rest = count_below-from m n p (λ k l u. h k l (omega arith)) in let here : p n ≡ true = h n ge (omega arith) in rw here (omega arith))
]

-- fewer than all, where one fails
pub count_below-missing : (n : ℕ) (p : ℕ → Bool) (o : ℕ) → o < n → p o ≡ false → count_below n p < n
count_below-missing zero p o l h = absurd (omega arith)
count_below-missing (suc n) p o l h = elim (below_or_last n o l) [
  | inl lt ↦ (let rest = count_below-missing n p o lt h in elim (cases_Bool (p n)) [ inl e ↦ rw e (omega arith) | inr e ↦ rw e (omega arith) ])
  | inr s ↦ (let rest = count_below-le_bound n p in let here : p n ≡ false = subst (λ k. p k ≡ false) s h in rw here (omega arith))
]
