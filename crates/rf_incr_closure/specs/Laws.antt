-- When rows are kept.
use Rattle.std.specs.Prelude.{◌≡◌, ℕ, Bool, List}
use Rattle.rf_store.specs.Entries.{Entry, value_at}
use Rattle.rf_incr_closure.specs.Entries.{BeginsWith, HasRow, HasRows, LeavesOtherRows, LeavesOtherTags, row_key}

-- maps that agree at the keys of a row have the same row
abbrev pub RowIsOfItsKeys : Type 0
RowIsOfItsKeys =
    (old new : List Entry) (tag n a : ℕ) (row : ℕ → Bool)
    → ((block : ℕ) → value_at new (row_key tag a block) ≡ value_at old (row_key tag a block))
    → HasRow old tag n a row → HasRow new tag n a row

-- maps that agree at the keys that begin with a tag have the same rows of the tag
abbrev pub RowsAreOfTheirTag : Type 0
RowsAreOfTheirTag =
    (old new : List Entry) (tag n : ℕ) (rows : ℕ → ℕ → Bool)
    → ((k : List ℕ) → BeginsWith tag k → value_at new k ≡ value_at old k)
    → HasRows old tag n rows → HasRows new tag n rows

-- where only the row of vertex c changes, the rows of other vertices stay
abbrev pub OtherRowsStay : Type 0
OtherRowsStay =
    (old new : List Entry) (tag n c a : ℕ) (row : ℕ → Bool)
    → LeavesOtherRows old new tag n c → (a ≡ c → ⊥)
    → HasRow old tag n a row → HasRow new tag n a row

-- what leaves the entries of other tags as they were leaves the rows of other tags
abbrev pub OtherTagsKeepRows : Type 0
OtherTagsKeepRows =
    (old new : List Entry) (tag other n : ℕ) (rows : ℕ → ℕ → Bool)
    → LeavesOtherTags old new tag → (other ≡ tag → ⊥)
    → HasRows old other n rows → HasRows new other n rows
