-- Prefixes of a list, and how far they reach.
use Rattle.std.proofs.Common.{◌≡◌, ℕ, ◌≤◌, ◌+◌, Bool, true, false, List, [], ◌∷◌, ◌++◌, length, refl, sym, arith, append_assoc, length-append}
use Rattle.rf_text.specs.Identifier.{EachPasses}
use Rattle.rf_lexer.specs.Characters.{StopsAt}

-- the longer of two prefixes goes on where the shorter ends
pub longer_prefix :
    (a b r s : List ℕ) → length a ≤ length b → a ++ r ≡ b ++ s → (z : List ℕ) × (b ≡ a ++ z) × (r ≡ z ++ s)
longer_prefix [] b r s h e = (b, refl, e)
longer_prefix (x ∷ a) [] r s h e = absurd (omega arith)
longer_prefix (x ∷ a) (y ∷ b) r s h e =
    let tails : a ++ r ≡ b ++ s = cc in
    let heads : x ≡ y = cc in
    let ih = longer_prefix a b r s (omega arith) tails in
    let same : b ≡ a ++ ih.0 = ih.1 in
    (ih.0, cc, ih.2)

-- prefixes of one length are one
pub same_prefix : (a b r s : List ℕ) → length a ≡ length b → a ++ r ≡ b ++ s → (a ≡ b) × (r ≡ s)
same_prefix [] [] r s h e = (refl, e)
same_prefix [] (y ∷ b) r s h e = absurd (omega arith)
same_prefix (x ∷ a) [] r s h e = absurd (omega arith)
same_prefix (x ∷ a) (y ∷ b) r s h e =
    let tails : a ++ r ≡ b ++ s = cc in
    let heads : x ≡ y = cc in
    let ih = same_prefix a b r s (omega arith) tails in
    let same : a ≡ b = ih.0 in
    (cc, ih.1)

-- no prefix whose characters pass is longer than one after which none passes
pub span_longest :
    (p : ℕ → Bool) (a b r s : List ℕ) → EachPasses p b → StopsAt p r → a ++ r ≡ b ++ s → length b ≤ length a
span_longest p a [] r s each stops e = omega arith
span_longest p [] (y ∷ b) r s each stops e =
    let stop : StopsAt p (y ∷ (b ++ s)) = rw e at stops in
    let fails : p y ≡ false = stop in
    let passes : p y ≡ true = each.0 in
    cc
span_longest p (x ∷ a) (y ∷ b) r s each stops e =
    let tails : a ++ r ≡ b ++ s = cc in
    let ih = span_longest p a b r s each.1 stops tails in
    omega arith

-- two such prefixes are one
pub span_same :
    (p : ℕ → Bool) (a b r s : List ℕ) → EachPasses p a → StopsAt p r → EachPasses p b → StopsAt p s → a ++ r ≡ b ++ s →
    (a ≡ b) × (r ≡ s)
span_same p a b r s each stops every ends e =
    let short = span_longest p a b r s every stops e in
    let long = span_longest p b a s r each ends (sym e) in
    same_prefix a b r s (omega arith) e

-- one more character
pub regrouped : (a : List ℕ) (x : ℕ) (r : List ℕ) → a ++ x ∷ r ≡ (a ++ x ∷ []) ++ r
regrouped a x r = sym (append_assoc a (x ∷ []) r)

pub EachPasses-push : (p : ℕ → Bool) (a : List ℕ) (x : ℕ) → EachPasses p a → p x ≡ true → EachPasses p (a ++ x ∷ [])
EachPasses-push p [] x each passes = (passes, tt)
EachPasses-push p (y ∷ a) x each passes = (each.0, EachPasses-push p a x each.1 passes)

pub length-push : (a : List ℕ) (x : ℕ) → length (a ++ x ∷ []) ≡ length a + 1
length-push a x = omega (arith, length-append a (x ∷ []))
