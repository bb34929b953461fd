-- The words that a row is written as.
use Rattle.std.specs.Prelude.{◌≡◌, ℕ, zero, suc, ◌+◌, ◌*◌, ◌<◌, ◌&&◌, nat_lt, Bool, if◌then◌else◌, List, [], ◌∷◌}
use Rattle.rf_store.specs.Entries.{Entry}
use Rattle.rf_incr_closure.specs.Entries.{block_size, row_key, words_at}

-- the number whose lowest n bits are 1 where vertices from `first` on are marked
abbrev pub word_of : (ℕ → Bool) → ℕ → ℕ → ℕ
word_of marked first zero = 0
word_of marked first (suc n) = (if marked first then 1 else 0) + 2 * word_of marked (first + 1) n

-- the words of the vertices from `first` on
abbrev pub block_words : (ℕ → Bool) → ℕ → List ℕ
block_words marked first =
    word_of marked first 64
    ∷ word_of marked (first + 64) 64
    ∷ word_of marked (first + 128) 64
    ∷ word_of marked (first + 192) 64
    ∷ word_of marked (first + 256) 64
    ∷ word_of marked (first + 320) 64
    ∷ word_of marked (first + 384) 64
    ∷ []

-- these marks are written in the map as the row of vertex a, in the blocks that have vertices below n
abbrev pub AreWritten : List Entry → ℕ → ℕ → ℕ → (ℕ → Bool) → Type 0
AreWritten entries tag n a marked =
    (block : ℕ) → block * block_size < n
    → words_at entries (row_key tag a block) ≡ block_words marked (block * block_size)

-- the row of vertex a is written in the map, and no number from n on is marked in its blocks
abbrev pub IsWrittenRow : List Entry → ℕ → ℕ → ℕ → (ℕ → Bool) → Type 0
IsWrittenRow entries tag n a row = AreWritten entries tag n a (λ b. nat_lt b n && row b)

-- the rows of all vertices below n are written so
abbrev pub AreWrittenRows : List Entry → ℕ → ℕ → (ℕ → ℕ → Bool) → Type 0
AreWrittenRows entries tag n rows = (a : ℕ) → a < n → IsWrittenRow entries tag n a (rows a)
