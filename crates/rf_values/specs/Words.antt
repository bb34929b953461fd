-- Private: no public contract cites this.
-- A set of numbers below 256 in four words of 64 bits, where the bit c % 64 of the word c / 64 is that of c.
use Rattle.std.specs.Prelude.{◌≡◌, ℕ, zero, suc, ◌+◌, ◌*◌, ◌/◌, ◌%◌, ◌^◌, ◌<◌, Bool, ◌==◌, if◌then◌else◌, List, [], ◌∷◌, length, All, slice_index}
use Rattle.std.specs.Ordering.{nat_cmp}
use Rattle.std.specs.FinSet.{FinSet, contains}
use Rattle.std.specs.Int.{bit_at}
use Rattle.rf_values.specs.ClassSet.{members_below}

-- four words of 64 bits
pub record AreWords (words : List ℕ) : Type 0 where
  pub four : length words ≡ 4
  pub fit : All (λ word. word < 2 ^ 64) words

-- whether the bit of c is 1
abbrev pub has_bit : List ℕ → ℕ → Bool
has_bit words c = bit_at (slice_index words (c / 64)) (c % 64) == 1

-- the set that four words stand for
unfoldable pub marked : List ℕ → FinSet nat_cmp
marked words = members_below 256 (has_bit words)

-- the number whose bits below n are 1 where they pass
unfoldable pub number_of_bits : ℕ → (ℕ → Bool) → ℕ
number_of_bits zero p = 0
number_of_bits (suc n) p = (if p 0 then 1 else 0) + 2 * number_of_bits n (λ i. p (suc i))

-- the word k of a set
unfoldable pub word_of : FinSet nat_cmp → ℕ → ℕ
word_of members k = number_of_bits 64 (λ i. contains members (64 * k + i))

-- the four words of a set
abbrev pub words_of : FinSet nat_cmp → List ℕ
words_of members = word_of members 0 ∷ word_of members 1 ∷ word_of members 2 ∷ word_of members 3 ∷ []
