-- Private: no public contract cites this.
-- What the fields of a store stand for, and when they are sound.
use Rattle.std.specs.Prelude.{◌≡◌, ℕ, ◌-◌, ◌≤◌, ◌<◌, List, map, length, slice_index_or}
use Rattle.rf_store.specs.Part.{Part, part_at}
use Rattle.rf_store.specs.Contents.{Version, Contents}
use Rattle.rf_store.specs.declared.store.Saved.{Saved}

-- the map and the number of rows that a saved version stands for
abbrev pub version_of : List Part → Saved → Version
version_of parts k = record { entries = (part_at parts k.root).entries; rows = k.rows }

abbrev pub contents_of : List Part → ℕ → List Saved → Contents
contents_of parts root saved = record { current = (part_at parts root).entries; saved = map (version_of parts) saved; rows = length parts - 1 }

-- the root of a saved version is one of its rows, and a later version has no fewer rows, and no more than the table
pub record IsSaved (n : ℕ) (saved : List Saved) (i : ℕ) (k : Saved) : Type 0 where
  pub root_in : k.root ≤ k.rows
  pub rows_in : k.rows < n
  pub later : (j : ℕ) (m : Saved) → i ≤ j → j < length saved → m ≡ slice_index_or saved j m → k.rows ≤ m.rows

pub record IsStore (parts : List Part) (root : ℕ) (saved : List Saved) : Type 0 where
  pub current_in : root < length parts
  pub versions : (i : ℕ) (k : Saved) → i < length saved → k ≡ slice_index_or saved i k → IsSaved (length parts) saved i k
