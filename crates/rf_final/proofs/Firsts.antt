-- The first number below a bound that passes.
use Rattle.std.proofs.Common.{◌≡◌, ℕ, ◌≤◌, ◌<◌, Bool, true, false, Option, Some, None, refl, sym, subst, arith}
use Rattle.std.specs.Prelude.{unwrap_or}
use Rattle.std.specs.Bool.{then_some}
use Rattle.std.proofs.lemmas.Bool.{both_ways}
use Rattle.rf_finite.specs.Range.{first_below}
use Rattle.rf_finite.proofs.Range.{IsFirstValue-from_first_below, each-from_first_below, None-ne_Some}

pub then_some-is : (b : Bool) (c k : ℕ) → then_some b c ≡ Some k → (b ≡ true) × (c ≡ k)
then_some-is true c k e = (refl, cc)
then_some-is false c k e = absurd (None-ne_Some e)

then_some-not : (b : Bool) (c : ℕ) → then_some b c ≡ None → b ≡ false
then_some-not true c e = absurd (None-ne_Some (sym e))
then_some-not false c e = refl

module _ (n : ℕ) (p : ℕ → Bool) where
  -- the first that passes, 0 where none does
  abbrev pub first : ℕ
  first = unwrap_or (first_below n (λ k. then_some (p k) k)) 0

  pub first-small : (most : ℕ) → 0 < most → n ≤ most → first < most
  first-small most some few = go (first_below n (λ k. then_some (p k) k)) refl
    where
      go : (o : Option ℕ) → first_below n (λ k. then_some (p k) k) ≡ o → unwrap_or o 0 < most
      go None e = some
      go (Some k) e = (let r = IsFirstValue-from_first_below n (λ k. then_some (p k) k) k e in
          let same = then_some-is (p r.0) r.0 k r.2 in let below = r.1 in let is = same.1 in omega arith)

  -- where one passes, the first is below the bound and passes
  pub first-passes : (c : ℕ) → c < n → p c ≡ true → (first < n) × (p first ≡ true)
  first-passes c l h = go (first_below n (λ k. then_some (p k) k)) refl
    where
      go : (o : Option ℕ) → first_below n (λ k. then_some (p k) k) ≡ o → (unwrap_or o 0 < n) × (p (unwrap_or o 0) ≡ true)
      go None e = absurd (both_ways (p c) (then_some-not (p c) c (each-from_first_below n (λ k. then_some (p k) k) e c l)) h)
      go (Some k) e = (let r = IsFirstValue-from_first_below n (λ k. then_some (p k) k) k e in
          let same = then_some-is (p r.0) r.0 k r.2 in
          (subst (λ j. j < n) same.1 r.1, subst (λ j. p j ≡ true) same.1 same.0))
