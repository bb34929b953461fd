-- Private: no public contract cites this.
-- What the rows of the table stand for, and when they are sound.
use Rattle.std.specs.Prelude.{◌≡◌, ℕ, ◌+◌, ◌-◌, ◌*◌, ◌^◌, ◌≤◌, ◌<◌, List, [], ◌∷◌, ◌++◌, length, slice_index_or}
use Rattle.rf_store.specs.Entries.{IsInOrder}
use Rattle.rf_store.specs.Part.{Part, empty_part, part_at, joined, DifferByAtMost}
use Rattle.rf_store.specs.declared.table.Row.{Row}

-- the tree that a row makes of its two sides
abbrev pub part_of : List Part → Row → Part
part_of parts row = joined (part_at parts row.left) (row.key, row.value) (part_at parts row.right)

-- the trees, with those of the rows added one after another
abbrev pub parts_after : List Part → List Row → List Part
parts_after parts [] = parts
parts_after parts (row ∷ rows) = parts_after (parts ++ part_of parts row ∷ []) rows

abbrev pub parts_of : List Row → List Part
parts_of rows = parts_after (empty_part ∷ []) rows

-- the row is the root of the tree at a link, and its sides are trees before it
pub record IsNode (parts : List Part) (link : ℕ) (row : Row) : Type 0 where
  pub left_before : row.left < link
  pub right_before : row.right < link
  pub stands : part_at parts link ≡ part_of parts row
  pub height : row.height ≡ (part_at parts link).height
  pub balanced : DifferByAtMost 1 (part_at parts row.left).height (part_at parts row.right).height

-- a tree in order, no higher than its link says, with enough entries for its height
pub record IsTree (link : ℕ) (part : Part) : Type 0 where
  pub in_order : IsInOrder part.entries
  pub low : part.height ≤ link
  pub full : 2 ^ part.height ≤ (length part.entries + 1) * (length part.entries + 1)

-- each row is a node, and each tree is in order
pub record IsSound (rows : List Row) : Type 0 where
  pub nodes : (link : ℕ) (row : Row) → 0 < link → link ≤ length rows → row ≡ slice_index_or rows (link - 1) row → IsNode (parts_of rows) link row
  pub trees : (link : ℕ) → IsTree link (part_at (parts_of rows) link)
