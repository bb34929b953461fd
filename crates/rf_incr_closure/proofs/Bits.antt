-- The bits of a block's words.
use Rattle.std.proofs.Common.{◌≡◌, ◌∙◌, ℕ, zero, suc, ◌+◌, ◌-◌, ◌*◌, ◌/◌, ◌%◌, ◌^◌, ◌<◌, ◌≤◌, Bool, true, false, ◌==◌, if◌then◌else◌, lit<, refl, sym, ap, arith}
use Rattle.std.specs.Prelude.{slice_index}
use Rattle.std.specs.Int.{bit_at}
use Rattle.std.proofs.Math.Nat.{pow-succ'}
use Rattle.std.proofs.Math.Pow.{pow_mono}
use Rattle.std.proofs.lemmas.Nat.Bits.{bit_at-suc, bit_at_lowest}
use Rattle.rf_incr_closure.specs.Words.{block_words, word_of}

abbrev bit : Bool → ℕ
bit b = if b then 1 else 0

pub bit-lt : (b : Bool) → bit b < 2
bit-lt true = lit< tt
bit-lt false = lit< tt

lowest : (b : Bool) (m : ℕ) → (bit b + 2 * m) % 2 ≡ bit b
lowest true m = omega arith
lowest false m = omega arith

upper : (b : Bool) (m : ℕ) → (bit b + 2 * m) / 2 ≡ m
upper true m = omega arith
upper false m = omega arith

bit-is : (b : Bool) → (bit b == 1) ≡ b
bit-is true = refl
bit-is false = refl

pub word_of-lt : (p : ℕ → Bool) (first n : ℕ) → word_of p first n < 2 ^ n
word_of-lt p first zero = lit< tt
word_of-lt p first (suc n) = omega (arith, word_of-lt p (first + 1) n, pow-succ' 2 n, bit-lt (p first))

-- there is room for one bit more
pub word_of-small : (p : ℕ → Bool) (first done word : ℕ) → done < 64 → word ≡ word_of p (first + (64 - done)) done → word < 2 ^ 63
word_of-small p first done word l is =
    let small = word_of-lt p (first + (64 - done)) done in
    let wide : 2 ^ done ≤ 2 ^ 63 = pow_mono {i = done} {j = 63} (omega (arith, l)) in
    omega (arith, small, wide, is)

bit_at-word_of : (p : ℕ → Bool) (first n i : ℕ) → i < n → bit_at (word_of p first n) i ≡ bit (p (first + i))
bit_at-word_of p first zero i h = absurd (omega arith)
bit_at-word_of p first (suc n) zero h =
    let e : first ≡ first + 0 = omega arith in
    bit_at_lowest (word_of p first (suc n)) ∙ lowest (p first) (word_of p (first + 1) n) ∙ ap (λ k. bit (p k)) e
bit_at-word_of p first (suc n) (suc i) h =
    let e : first + 1 + i ≡ first + suc i = omega arith in
    bit_at-suc (word_of p first (suc n)) i
    ∙ ap (λ m. bit_at m i) (upper (p first) (word_of p (first + 1) n))
    ∙ bit_at-word_of p (first + 1) n i (omega arith)
    ∙ ap (λ k. bit (p k)) e

-- one bit more below the others
pub word_of-more : (p : ℕ → Bool) (first done word : ℕ) → done < 64 → word ≡ word_of p (first + (64 - done)) done
    → 2 * word + bit (p (first + (63 - done))) ≡ word_of p (first + (64 - (done + 1))) (done + 1)
word_of-more p first done word l is =
    let at : first + (64 - (done + 1)) ≡ first + (63 - done) = omega (arith, l) in
    let after : first + (63 - done) + 1 ≡ first + (64 - done) = omega (arith, l) in
    let more : bit (p (first + (63 - done))) + 2 * word ≡ word_of p (first + (63 - done)) (suc done)
    = ap (λ w. bit (p (first + (63 - done))) + 2 * w) (is ∙ ap (λ k. word_of p k done) (sym after)) in
    let e : done + 1 ≡ suc done = omega arith in
    rw (at, e) (omega (arith, more))

word_in : (p : ℕ → Bool) (first j : ℕ) → j < 7 → slice_index (block_words p first) j ≡ word_of p (first + 64 * j) 64
word_in p first zero l = let e : first ≡ first + 64 * 0 = omega arith in ap (λ k. word_of p k 64) e
word_in p first (suc zero) l = refl
word_in p first (suc (suc zero)) l = refl
word_in p first (suc (suc (suc zero))) l = refl
word_in p first (suc (suc (suc (suc zero)))) l = refl
word_in p first (suc (suc (suc (suc (suc zero))))) l = refl
word_in p first (suc (suc (suc (suc (suc (suc zero)))))) l = refl
word_in p first (suc (suc (suc (suc (suc (suc (suc j))))))) l = absurd (omega (arith, l))

-- the bit of a vertex in the words of its block is its mark
pub bit_in : (p : ℕ → Bool) (b : ℕ) → (bit_at (slice_index (block_words p (b / 448 * 448)) (b % 448 / 64)) (b % 64) == 1) ≡ p b
bit_in p b =
    let first = b / 448 * 448 in
    let j = b % 448 / 64 in
    let few : b % 448 / 64 < 7 = omega arith in
    let low : b % 64 < 64 = omega arith in
    let whole : b / 448 * 448 + 64 * (b % 448 / 64) + b % 64 ≡ b = omega arith in
    ap (λ w. bit_at w (b % 64) == 1) (word_in p first j few)
    ∙ ap (λ m. m == 1) (bit_at-word_of p (first + 64 * j) 64 (b % 64) low)
    ∙ bit-is (p (first + 64 * j + b % 64))
    ∙ ap p whole
