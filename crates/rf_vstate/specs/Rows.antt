-- Private: no public contract cites this.
-- What a map gives at each key, and what every map of a state keeps.
use Rattle.std.specs.Prelude.{◌≡◌, ◌≢◌, ◌≤◌, ◌<◌, ◌++◌, ◌∷◌, [], if◌then◌else◌, ℕ, Option, None, Some, List, All, length, slice_index}
use Rattle.rf_values.specs.declared.truth.Truth.{Truth}
use Rattle.rf_values.specs.declared.truth.Truth.TheVariants.{Unknown}
use Rattle.rf_problem.specs.declared.problem.Problem.{Problem}
use Rattle.rf_store.specs.Contents.{Version}
use Rattle.rf_store.specs.Entries.{Entry, value_at}
use Rattle.rf_state.specs.Root.{FitsObject}
use Rattle.rf_state.specs.State.{State, is_at, object_of}
use Rattle.rf_state.specs.declared.object.Object.{Object}
use Rattle.rf_vstate.specs.Maps.{map_at, state_of}
use Rattle.rf_vstate.specs.Words.{fact_key, fact_value, number_key, number_value, object_key, object_value}

-- the value where a truth was added
abbrev pub fact_row : Truth → Option (List ℕ)
fact_row Unknown = None
fact_row t = Some (fact_value t)

-- the key is none of those of a state of n objects
pub record IsOtherKey (n : ℕ) (k : List ℕ) : Type 0 where
  pub number : k ≢ number_key
  pub object : (o : ℕ) → o < n → k ≢ object_key o
  pub fact : (r a b : ℕ) → k ≢ fact_key r a b

-- the map has these values, and no other
pub record HasRows (s : State) (entries : List Entry) : Type 0 where
  pub number : value_at entries number_key ≡ Some (number_value (length s.objects))
  pub objects : (o : ℕ) → o < length s.objects → value_at entries (object_key o) ≡ Some (object_value (object_of s o))
  pub facts : (r a b : ℕ) → value_at entries (fact_key r a b) ≡ fact_row (s.added r a b)
  pub others : (k : List ℕ) → IsOtherKey (length s.objects) k → value_at entries k ≡ None

-- each entry is what its key gives
abbrev pub AreOwn : List Entry → Type 0
AreOwn entries = All (λ e. value_at entries e.0 ≡ Some e.1) entries

-- something was added only of edges of the problem's references between objects
abbrev pub IsWithin : Problem → State → Type 0
IsWithin p s = (r a b : ℕ) → s.added r a b ≢ Unknown → (r < length p.references) × ((a < length s.objects) × (b < length s.objects))

-- the map is that of a state of the problem
pub record IsSound (p : Problem) (entries : List Entry) : Type 0 where
  pub rows : HasRows (state_of entries) entries
  pub own : AreOwn entries
  pub fit : All (FitsObject p) (state_of entries).objects
  pub within : IsWithin p (state_of entries)

-- the state with this truth as what was added of an edge
abbrev pub with_fact : State → ℕ → ℕ → ℕ → Truth → State
with_fact s r a b v = record { objects = s.objects; added = λ q x y. if is_at r a b q x y then v else s.added q x y }

-- the state with one object more
abbrev pub with_one_more : State → Object → State
with_one_more s object = record { objects = s.objects ++ object ∷ []; added = s.added }

-- the versions at these places are maps of states, each place at or after those before it
pub record AreKept (p : Problem) (saved : List Version) (places : List ℕ) : Type 0 where
  pub there : All (λ place. place < length saved) places
  pub sound : All (λ place. IsSound p (map_at saved place)) places
  pub ordered : (i j : ℕ) → i ≤ j → j < length places → slice_index places i ≤ slice_index places j
