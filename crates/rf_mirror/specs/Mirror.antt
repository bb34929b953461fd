-- Private: no public contract cites this.
-- What lists beside a state have of it: they may be shorter than the state, and what they have is right.
use Rattle.std.specs.Prelude.{◌≡◌, ℕ, ◌*◌, ◌<◌, ◌≤◌, List, [], length, slice_index_or}
use Rattle.rf_values.specs.declared.truth.Truth.{Truth}
use Rattle.rf_values.specs.declared.truth.Truth.TheVariants.{Unknown}
use Rattle.rf_problem.specs.declared.problem.Problem.{Problem}
use Rattle.rf_state.specs.State.{State, no_object, object_of, told}
use Rattle.rf_state.specs.declared.object.Object.{Object}
use Rattle.rf_mirror.specs.Cells.{cell}

-- the objects are the first ones of a state
pub record AreObjects (s : State) (objects : List Object) : Type 0 where
  pub few : length objects ≤ length s.objects
  pub right : (o : ℕ) → o < length objects → slice_index_or objects o no_object ≡ object_of s o

abbrev pub truth_at : List Truth → ℕ → Truth
truth_at cells k = slice_index_or cells k Unknown

-- what there is in the cell of an edge is what is told of it, and no cells are there but those of edges
pub record AreTold (p : Problem) (s : State) (cells : List Truth) : Type 0 where
  pub few : length cells ≤ length s.objects * length s.objects * length p.references
  pub right : (r a b : ℕ) → r < length p.references → a < length s.objects → b < length s.objects
      → cell (length p.references) r a b < length cells
      → truth_at cells (cell (length p.references) r a b) ≡ told p s r a b

pub record IsMirror (p : Problem) (s : State) (objects : List Object) (cells : List Truth) : Type 0 where
  pub first : AreObjects s objects
  pub known : AreTold p s cells

abbrev pub no_state : State
no_state = record { objects = []; added = λ r a b. Unknown }

-- so are those that are kept of each state that is kept
pub record AreMirrors (p : Problem) (states : List State) (objects : List (List Object)) (cells : List (List Truth)) : Type 0 where
  pub many_objects : length objects ≡ length states
  pub many_cells : length cells ≡ length states
  pub right : (v : ℕ) → v < length states
      → IsMirror p (slice_index_or states v no_state) (slice_index_or objects v []) (slice_index_or cells v [])
