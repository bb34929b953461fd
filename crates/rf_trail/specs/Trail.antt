-- The list that a trail is, and those that it keeps.
use Rattle.std.specs.Prelude.{◌≡◌, ℕ, ◌<◌, ◌≤◌, List, [], ◌∷◌, length, map, take, drop, set, slice_index_or}
use Rattle.rf_trail.specs.declared.trail.Change.{Change}
use Rattle.rf_trail.specs.declared.trail.Mark.{Mark}
use Rattle.rf_trail.specs.declared.trail.Trail.{Trail}

-- the list before these changes, the oldest of which comes first
abbrev pub undone : {A : Type 0} → List (Change A) → List A → List A
undone [] xs = xs
undone (c ∷ cs) xs = set (undone cs xs) c.place c.before

-- the list that was kept at a mark
abbrev pub list_at : {A : Type 0} → List (Change A) → List A → Mark → List A
list_at changes xs m = take m.length (undone (drop m.changes changes) xs)

abbrev pub items : {A : Type 0} → Trail A → List A
items t = t.items.items

abbrev pub kept : {A : Type 0} → Trail A → List (List A)
kept t = map (list_at t.changes.items t.items.items) t.marks.items

-- none of the lists that are kept has anything that it hadn't
pub record HaveNoMore {A : Type 0} (old new : List (List A)) : Type 0 where
  pub many : length new ≡ length old
  pub few : (v : ℕ) → length (slice_index_or new v []) ≤ length (slice_index_or old v [])
  pub same : (v k : ℕ) (none : A) → k < length (slice_index_or new v [])
      → slice_index_or (slice_index_or new v []) k none ≡ slice_index_or (slice_index_or old v []) k none
