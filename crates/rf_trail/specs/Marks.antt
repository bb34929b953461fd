-- Private: no public contract cites this.
-- What marks keep.
use Rattle.std.specs.Prelude.{ℕ, ◌≤◌, ◌<◌, List, All, length, slice_index_or}
use Rattle.rf_trail.specs.declared.trail.Mark.{Mark}

abbrev pub no_mark : Mark
no_mark = record { changes = 0; length = 0 }

abbrev pub mark_at : List Mark → ℕ → Mark
mark_at marks i = slice_index_or marks i no_mark

-- a mark is of no more changes than that, and of no longer a list
pub record IsWithin (changes many : ℕ) (m : Mark) : Type 0 where
  pub few : m.changes ≤ changes
  pub short : m.length ≤ many

-- so are these marks, and each is within those after it
pub record AreMarks (changes many : ℕ) (marks : List Mark) : Type 0 where
  pub within : (i : ℕ) → i < length marks → IsWithin changes many (mark_at marks i)
  pub ordered : (i j : ℕ) → i ≤ j → j < length marks → IsWithin (mark_at marks j).changes (mark_at marks j).length (mark_at marks i)
