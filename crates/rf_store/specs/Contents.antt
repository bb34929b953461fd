-- What a store stands for: a current map, and saved versions of it.
use Rattle.std.specs.Prelude.{◌≡◌, ◌≢◌, ℕ, ◌+◌, ◌^◌, ◌≤◌, ◌<◌, List, Some, Contains, All}
use Rattle.std.specs.declared.cmp.Ordering.TheVariants.{Less}
use Rattle.rf_store.specs.Entries.{Entry, key_cmp, value_at, IsInOrder}

-- a saved map, and how many rows stood at its commit
pub record Version : Type 0 where
  pub entries : List Entry
  pub rows : ℕ

-- the current map, the saved versions, oldest first, and the number of rows in the table
pub record Contents : Type 0 where
  pub current : List Entry
  pub saved : List Version
  pub rows : ℕ

-- the new map has the value at the key, and at every other key what the old map has
pub record SetsOnly (old new : List Entry) (key value : List ℕ) : Type 0 where
  pub in_order : IsInOrder new
  pub this_key : value_at new key ≡ Some value
  pub other_keys : (k : List ℕ) → k ≢ key → value_at new k ≡ value_at old k

-- the key is below the other
abbrev pub IsBelow : List ℕ → List ℕ → Type 0
IsBelow a b = key_cmp a b ≡ Less

-- the entry is one of the map's, not below the key, and no entry that is not below the key is smaller
pub record IsLeastFrom (entries : List Entry) (key : List ℕ) (e : Entry) : Type 0 where
  pub there : Contains entries e
  pub from_key : IsBelow e.0 key → ⊥
  pub least : All (λ f. (IsBelow f.0 key → ⊥) → IsBelow f.0 e.0 → ⊥) entries

-- h is the greatest number with 2 ^ h at most (n + 2) ^ 2
pub record IsGreatestHeight (n h : ℕ) : Type 0 where
  pub reached : 2 ^ h ≤ (n + 2) ^ 2
  pub no_more : (n + 2) ^ 2 < 2 ^ (h + 1)
