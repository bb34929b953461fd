-- Lemmas on totals of upper ends.
use Rattle.std.proofs.Common.{◌≡◌, ℕ, zero, suc, ◌+◌, ◌<◌, Bool, true, not, ◌&&◌, eqb, Option, Some, None, refl, sym, inl, inr, arith}
use Rattle.std.specs.Prelude.{unwrap_or}
use Rattle.std.proofs.lemmas.Bool.{cases_Bool}
use Rattle.rf_finite.specs.Ends.{add_ends, ends_below}
use Rattle.rf_finite.specs.Range.{sum_below}
use Rattle.rf_finite.specs.Totals.{HasEnd, IsTotal, missing, without}
use Rattle.rf_finite.specs.declared.totals.EndsTotal.{EndsTotal}
use Rattle.rf_finite.proofs.Range.{sum_below-term}
use Rattle.rf_finite.proofs.Sums.{sum_below-without}

-- the sum of ends of which so many are missing
abbrev pub end_of : ℕ → ℕ → Option ℕ
end_of zero sum = Some sum
end_of (suc m) sum = None

pub end_of-some : (m sum : ℕ) → m ≡ 0 → end_of m sum ≡ Some sum
end_of-some m sum e = rw e refl

pub end_of-none : (m sum : ℕ) → (m ≡ 0 → ⊥) → end_of m sum ≡ None
end_of-none zero sum e = absurd (e refl)
end_of-none (suc m) sum e = refl

add_ends-end_of : (m sum : ℕ) (e : Option ℕ) → add_ends (end_of m sum) e ≡ end_of (m + missing e) (sum + unwrap_or e 0)
add_ends-end_of zero sum None = refl
add_ends-end_of zero sum (Some e) = refl
add_ends-end_of (suc m) sum None = let more : suc m + 1 ≡ suc (suc m) = omega arith in rw more refl
add_ends-end_of (suc m) sum (Some e) = let same : suc m + 0 ≡ suc m = omega arith in rw same refl

pub ends_below-end_of : (n : ℕ) (p : ℕ → Bool) (f : ℕ → Option ℕ) → ends_below n p f ≡ end_of (sum_below n p (λ k. missing (f k))) (sum_below n p (λ k. unwrap_or (f k) 0))
ends_below-end_of zero p f = refl
ends_below-end_of (suc n) p f =
    let rest = ends_below-end_of n p f in
    let m = sum_below n p (λ k. missing (f k)) in
    let sum = sum_below n p (λ k. unwrap_or (f k) 0) in
    elim (cases_Bool (p n)) [
      | inl e ↦ rw (e, rest) (add_ends-end_of m sum (f n))
      | inr e ↦ (let first : m + 0 ≡ m = omega arith in let second : sum + 0 ≡ sum = omega arith in rw (e, first, second) rest)
    ]

-- what a total sums to
pub end_of-total : (n : ℕ) (p : ℕ → Bool) (f : ℕ → Option ℕ) (total : EndsTotal) → IsTotal n p f total → end_of total.unbounded total.finite ≡ ends_below n p f
end_of-total n p f total t = let sum = ends_below-end_of n p f in rw (t.unbounded, t.finite) (sym sum)

-- the end of a number that passes is one of a total's
pub HasEnd-at : (n : ℕ) (p : ℕ → Bool) (f : ℕ → Option ℕ) (total : EndsTotal) (k : ℕ) → IsTotal n p f total → k < n → p k ≡ true → HasEnd total (f k)
HasEnd-at n p f total k t l h =
    let finite = sum_below-term n p (λ j. unwrap_or (f j) 0) k l h in
    let unbounded = sum_below-term n p (λ j. missing (f j)) k l h in
    let sum = t.finite in
    let many = t.unbounded in
    record { finite = omega arith; unbounded = omega arith }

-- without it, it is the total of the others
pub IsTotal-without : (n : ℕ) (p : ℕ → Bool) (f : ℕ → Option ℕ) (total : EndsTotal) (k : ℕ) → IsTotal n p f total → k < n → p k ≡ true
    → IsTotal n (λ j. not (eqb j k) && p j) f (without total (f k))
IsTotal-without n p f total k t l h =
    let finite = sum_below-without n p (λ j. unwrap_or (f j) 0) k l h in
    let unbounded = sum_below-without n p (λ j. missing (f j)) k l h in
    let sum = t.finite in
    let many = t.unbounded in
    record { finite = omega arith; unbounded = omega arith }
