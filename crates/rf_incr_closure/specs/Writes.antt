-- Private: no public contract cites this.
-- What one write changes, and the marks that are written.
use Rattle.std.specs.Prelude.{◌≡◌, ◌≢◌, ℕ, Bool, false, List, slice_index_or}
use Rattle.rf_store.specs.Entries.{Entry, value_at}
use Rattle.rf_incr_closure.specs.Entries.{words_at}

-- whether a vertex is marked
abbrev pub mark_at : List Bool → ℕ → Bool
mark_at marks i = slice_index_or marks i false

-- the new map has these words at the key, and at every other key what the old map has
pub record Writes (old new : List Entry) (key words : List ℕ) : Type 0 where
  pub this_key : words_at new key ≡ words
  pub other_keys : (k : List ℕ) → k ≢ key → value_at new k ≡ value_at old k
