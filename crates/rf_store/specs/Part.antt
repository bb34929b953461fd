-- Private: no public contract cites this.
-- The trees that a table of rows has, each by its entries and its height.
use Rattle.std.specs.Prelude.{◌≡◌, ℕ, ◌+◌, ◌≤◌, ◌<◌, max, List, [], ◌∷◌, ◌++◌, length, slice_index_or}
use Rattle.rf_store.specs.Entries.{Entry}

-- a tree: its entries in the order of their keys, and its height
pub record Part : Type 0 where
  pub entries : List Entry
  pub height : ℕ

-- the trees of a table, the empty tree first, and for how many more rows there is memory
pub record Parts : Type 0 where
  pub parts : List Part
  pub room : ℕ

abbrev pub empty_part : Part
empty_part = record { entries = []; height = 0 }

abbrev pub part_at : List Part → ℕ → Part
part_at parts link = slice_index_or parts link empty_part

-- the tree with an entry between two trees
abbrev pub joined : Part → Entry → Part → Part
joined l e r = record { entries = l.entries ++ e ∷ r.entries; height = max l.height r.height + 1 }

-- neither height is more than this above the other
abbrev pub DifferByAtMost : ℕ → ℕ → ℕ → Type 0
DifferByAtMost by l r = (l ≤ r + by) × (r ≤ l + by)

-- the trees that stood in the old table stand at the same places in the new one
pub record Extends (old new : List Part) : Type 0 where
  pub longer : length old ≤ length new
  pub same : (link : ℕ) → link < length old → part_at new link ≡ part_at old link
