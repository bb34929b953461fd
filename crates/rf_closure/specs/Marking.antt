-- Private: no public contract cites this.
-- What marking the vertices to which one vertex leads does to the marks and to the stack.
use denote.Bor.{Bor}
use Rattle.std.specs.Prelude.{◌≡◌, ℕ, ◌+◌, if◌then◌else◌, [], ◌∷◌, ◌<◌, ◌⊎◌, ◌||◌, Bool, true, false, Option, None, Some, List, length, slice_index_or, Contains}

-- how many vertices are not marked
abbrev pub unmarked_count : List Bool → ℕ
unmarked_count [] = 0
unmarked_count (b ∷ bs) = (if b then 0 else 1) + unmarked_count bs

-- the vertices of the row are marked as well, and those that were not are on the stack
pub record Marking (size : ℕ) (row : ℕ → Bool) (old_marks : List Bool) (old_stack : List ℕ)
    (marks : List Bool) (stack : List ℕ) : Type 0 where
  pub len : length marks ≡ size
  pub marked : (k : ℕ) → k < size → slice_index_or marks k false ≡ (slice_index_or old_marks k false || row k)
  pub kept : (k : ℕ) → Contains old_stack k → Contains stack k
  pub added : (k : ℕ) → k < size → slice_index_or old_marks k false ≡ false
      → slice_index_or marks k false ≡ true → Contains stack k
  pub only : (k : ℕ) → Contains stack k → Contains old_stack k ⊎ ((k < size) × (row k ≡ true))
  pub balance : unmarked_count marks + length stack ≡ unmarked_count old_marks + length old_stack

-- whether a walk may pass through vertex c by these marks; where there are none it may through each
abbrev pub passes : Option (Bor (List Bool)) → ℕ → Bool
passes None c = true
passes (Some marks) c = slice_index_or marks.now c false
