-- How the rows of a tag stand in a map: which vertices can be reached from which.
use Rattle.std.specs.Prelude.{◌≡◌, ◌==◌, ℕ, ◌*◌, ◌/◌, ◌%◌, ◌<◌, Bool, unwrap_or, List, [], ◌∷◌, slice_index}
use Rattle.std.specs.Int.{bit_at}
use Rattle.rf_store.specs.Entries.{Entry, value_at}

-- how many vertices a block of a row is of: as many as a value has bits
abbrev pub block_size : ℕ
block_size = 448

-- where a block of the row of a vertex stands
abbrev pub row_key : ℕ → ℕ → ℕ → List ℕ
row_key tag from block = tag ∷ from ∷ block ∷ 0 ∷ 0 ∷ 0 ∷ []

-- the words at a key, zeros where there is no entry
abbrev pub words_at : List Entry → List ℕ → List ℕ
words_at entries k = unwrap_or (value_at entries k) (0 ∷ 0 ∷ 0 ∷ 0 ∷ 0 ∷ 0 ∷ 0 ∷ [])

-- whether the map has at the tag that b can be reached from a: bit b % 64 of the word of b in its block
abbrev pub is_marked : List Entry → ℕ → ℕ → ℕ → Bool
is_marked entries tag a b =
    bit_at (slice_index (words_at entries (row_key tag a (b / block_size))) (b % block_size / 64)) (b % 64)
    == 1

-- the map has at the tag this row of vertex a, said for the vertices below n
abbrev pub HasRow : List Entry → ℕ → ℕ → ℕ → (ℕ → Bool) → Type 0
HasRow entries tag n a row = (b : ℕ) → b < n → is_marked entries tag a b ≡ row b

-- the map has at the tag the rows of all vertices below n
abbrev pub HasRows : List Entry → ℕ → ℕ → (ℕ → ℕ → Bool) → Type 0
HasRows entries tag n rows = (a : ℕ) → a < n → HasRow entries tag n a (rows a)

-- the key begins with the tag
abbrev pub BeginsWith : ℕ → List ℕ → Type 0
BeginsWith tag [] = ⊥
BeginsWith tag (word ∷ words) = word ≡ tag

-- no entry but those of the tag differs
abbrev pub LeavesOtherTags : List Entry → List Entry → ℕ → Type 0
LeavesOtherTags old new tag =
    (k : List ℕ) → (BeginsWith tag k → ⊥) → value_at new k ≡ value_at old k

-- the key is that of a block in which the row of vertex a has vertices below n
abbrev pub IsKeyOfRow : ℕ → ℕ → ℕ → List ℕ → Type 0
IsKeyOfRow tag n a k = (block : ℕ) × (block * block_size < n) × (k ≡ row_key tag a block)

-- no entry but those of the row of vertex a differs
abbrev pub LeavesOtherRows : List Entry → List Entry → ℕ → ℕ → ℕ → Type 0
LeavesOtherRows old new tag n a =
    (k : List ℕ) → (IsKeyOfRow tag n a k → ⊥) → value_at new k ≡ value_at old k
