-- Ends that are less, and counts of what passes without one that does.
use Rattle.std.proofs.Common.{◌≡◌, ℕ, suc, ◌<◌, Bool, true, false, not, ◌&&◌, ◌==◌, Option, Some, refl, ap, ◌∙◌}
use Rattle.std.proofs.lemmas.Bool.{and_from, lt-leb, not_from_false}
use Rattle.rf_finite.specs.Ends.{within}
use Rattle.rf_finite.specs.Range.{count_below}
use Rattle.rf_finite.proofs.Range.{count_below-same, count_below-without}
use Rattle.rf_rules.specs.Words.{is_less}

-- an end that is less than a number
pub less_than : (e : Option ℕ) (m n : ℕ) → e ≡ Some m → m < n → is_less e n ≡ true
less_than e m n is l = rw is (not_from_false (within n (Some m)) (lt-leb n m l))

swap : (x y z : Bool) → (x && (y && z)) ≡ (y && (x && z))
swap true true z = refl
swap true false z = refl
swap false true z = refl
swap false false z = refl

-- without one of the single objects that pass, one fewer passes
pub others : (n : ℕ) (single q : ℕ → Bool) (b : ℕ) → b < n → single b ≡ true → q b ≡ true
    → count_below n (λ k. single k && q k) ≡ suc (count_below n (λ k. single k && (not (k == b) && q k)))
others n single q b l hs hq =
    count_below-without n (λ k. single k && q k) b l (and_from (single b) (q b) hs hq)
    ∙ ap suc (count_below-same n (λ k. not (k == b) && (single k && q k)) (λ k. single k && (not (k == b) && q k))
    (λ k lk. swap (not (k == b)) (single k) (q k)))
