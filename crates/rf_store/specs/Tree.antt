-- Private: no public contract cites this.
-- What joining trees and putting an entry into one make of a table.
use Rattle.std.specs.Prelude.{◌≡◌, ℕ, ◌+◌, ◌*◌, ◌≤◌, ◌<◌, max, List, [], ◌∷◌, ◌++◌, length}
use Rattle.rf_store.specs.Entries.{Entry, IsInOrder, with_entry}
use Rattle.rf_store.specs.Part.{Parts, part_at, joined, Extends, DifferByAtMost}

-- an entry may stand between two trees, whose heights differ by so much at most
pub record CanJoin (by : ℕ) (table : Parts) (left : ℕ) (e : Entry) (right : ℕ) : Type 0 where
  pub left_in : left < length table.parts
  pub right_in : right < length table.parts
  pub near : DifferByAtMost by (part_at table.parts left).height (part_at table.parts right).height
  pub in_order : IsInOrder ((part_at table.parts left).entries ++ e ∷ (part_at table.parts right).entries)

-- the new table has one more row, `link`, with the entry between two trees
pub record IsPushed (old new : Parts) (left : ℕ) (e : Entry) (right link : ℕ) : Type 0 where
  pub parts : new.parts ≡ old.parts ++ joined (part_at old.parts left) e (part_at old.parts right) ∷ []
  pub place : link ≡ length old.parts
  pub room : old.room ≤ new.room + 1

-- the new table has at most three more rows, and `link` is a tree with the entry between two trees
pub record IsJoined (old new : Parts) (left : ℕ) (e : Entry) (right link : ℕ) : Type 0 where
  pub extends : Extends old.parts new.parts
  pub in_table : link < length new.parts
  pub room : length old.parts + old.room ≤ length new.parts + new.room
  pub entries : (part_at new.parts link).entries ≡ (part_at old.parts left).entries ++ e ∷ (part_at old.parts right).entries
  pub not_lower : max (part_at old.parts left).height (part_at old.parts right).height ≤ (part_at new.parts link).height
  pub higher : (part_at new.parts link).height ≤ max (part_at old.parts left).height (part_at old.parts right).height + 1
  pub few : length new.parts + (part_at new.parts link).height ≤ length old.parts + max (part_at old.parts left).height (part_at old.parts right).height + 3
  pub level : DifferByAtMost 1 (part_at old.parts left).height (part_at old.parts right).height → (length new.parts ≡ length old.parts + 1) × ((part_at new.parts link).height ≡ max (part_at old.parts left).height (part_at old.parts right).height + 1)

-- the new table has few more rows, and `link` is the tree at `root` with the value put at the key
pub record IsPut (old new : Parts) (root : ℕ) (key value : List ℕ) (link : ℕ) : Type 0 where
  pub extends : Extends old.parts new.parts
  pub in_table : link < length new.parts
  pub room : length old.parts + old.room ≤ length new.parts + new.room
  pub entries : (part_at new.parts link).entries ≡ with_entry (part_at old.parts root).entries key value
  pub not_lower : (part_at old.parts root).height ≤ (part_at new.parts link).height
  pub higher : (part_at new.parts link).height ≤ (part_at old.parts root).height + 1
  pub few : length new.parts + (part_at new.parts link).height ≤ length old.parts + 3 * (part_at old.parts root).height + 2
