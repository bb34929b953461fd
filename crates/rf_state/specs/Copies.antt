-- Private: no public contract cites this.
-- A map of added facts, with a fresh object that stands where another does.
use Rattle.std.specs.Prelude.{◌≡◌, ℕ, if◌then◌else◌, Some}
use Rattle.std.specs.BTreeMap.{get}
use Rattle.rf_values.specs.declared.truth.Truth.{Truth}
use Rattle.rf_state.specs.Added.{Added, Key, added_at, key_cmp}
use Rattle.rf_state.specs.State.{copied_from, is_at}

-- the new map has a truth at each key that is this one, where object n at its second end has the facts of object o
abbrev pub IsRowPut : Added → Key → Truth → ℕ → ℕ → Added → Type 0
IsRowPut old k t o n new = (q x y : ℕ) → get key_cmp new (q, x, y)
    ≡ (if is_at k.0 k.1 k.2 q x (copied_from o n y) then Some t else get key_cmp old (q, x, y))

-- and where it has them at both ends
abbrev pub ArePut : Added → Key → Truth → ℕ → ℕ → Added → Type 0
ArePut old k t o n new = (q x y : ℕ) → get key_cmp new (q, x, y)
    ≡ (if is_at k.0 k.1 k.2 q (copied_from o n x) (copied_from o n y) then Some t else get key_cmp old (q, x, y))

-- the new map has of each fact what the old map has of the one that it has a copy of
abbrev pub AreCopies : Added → ℕ → ℕ → Added → Type 0
AreCopies old o n new = (r x y : ℕ) → added_at new r x y ≡ added_at old r (copied_from o n x) (copied_from o n y)
