-- A prefix of bytes that fail a test ends in one place, where what follows begins with one that passes.
use Rattle.std.proofs.Common.{◌≡◌, ℕ, suc, Bool, true, false, List, [], ◌∷◌, ◌++◌, refl, All, arith}

-- nothing follows, or the first byte passes the test
abbrev pub BeginsWith : (ℕ → Bool) → List ℕ → Type 0
BeginsWith p [] = Unit {0}
BeginsWith p (x ∷ xs) = p x ≡ true

-- each byte fails the test
abbrev pub EachFails : (ℕ → Bool) → List ℕ → Type 0
EachFails p xs = All (λ x. p x ≡ false) xs

pub EachFails-tail : (p : ℕ → Bool) (x : ℕ) (xs : List ℕ) → EachFails p (x ∷ xs) → EachFails p xs
EachFails-tail p x xs fails k d h = fails (suc k) d (omega arith)

pub EachFails-head : (p : ℕ → Bool) (x : ℕ) (xs : List ℕ) → EachFails p (x ∷ xs) → p x ≡ false
EachFails-head p x xs fails = fails 0 0 (omega arith)

-- no byte that passes is in such a prefix
both_tests : (p : ℕ → Bool) (x : ℕ) (xs ys : List ℕ) → BeginsWith p ys → ys ≡ x ∷ xs → p x ≡ false → ⊥
both_tests p x xs [] begun e fails = let none : [] ≡ x ∷ xs = e in cc
both_tests p x xs (y ∷ ys) begun e fails =
    let same : y ≡ x = cc in
    let passes : p y ≡ true = begun in
    cc

pub one_prefix :
    (p : ℕ → Bool) (a b r s : List ℕ) → EachFails p a → EachFails p b → BeginsWith p r → BeginsWith p s → a ++ r ≡ b ++ s →
    (a ≡ b) × (r ≡ s)
one_prefix p [] [] r s na nb br bs e = (refl, e)
one_prefix p [] (d ∷ b) r s na nb br bs e = absurd (both_tests p d (b ++ s) r br e (EachFails-head p d b nb))
one_prefix p (c ∷ a) [] r s na nb br bs e =
    let turned : s ≡ c ∷ (a ++ r) = cc in
    absurd (both_tests p c (a ++ r) s bs turned (EachFails-head p c a na))
one_prefix p (c ∷ a) (d ∷ b) r s na nb br bs e =
    let tails : a ++ r ≡ b ++ s = cc in
    let ih = one_prefix p a b r s (EachFails-tail p c a na) (EachFails-tail p d b nb) br bs tails in
    let heads : c ≡ d = cc in
    let same : a ≡ b = ih.0 in
    (cc, ih.1)
