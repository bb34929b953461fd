-- The entries of a state in a map.
use Rattle.std.specs.Prelude.{◌≡◌, ◌≢◌, ◌↔◌, ◌⊎◌, ◌<◌, ℕ, List, Contains, length}
use Rattle.rf_values.specs.declared.truth.Truth.TheVariants.{Unknown}
use Rattle.rf_store.specs.Entries.{Entry}
use Rattle.rf_state.specs.State.{State, object_of}
use Rattle.rf_vstate.specs.Words.{fact_key, fact_value, number_key, number_value, object_key, object_value}

-- the entry is that of an object
pub record IsObjectEntry (s : State) (e : Entry) : Type 0 where
  pub number : ℕ
  pub there : number < length s.objects
  pub entry : e ≡ (object_key number, object_value (object_of s number))

-- the entry is that of an edge of which something was added
pub record IsFactEntry (s : State) (e : Entry) : Type 0 where
  pub reference : ℕ
  pub from : ℕ
  pub to : ℕ
  pub known : s.added reference from to ≢ Unknown
  pub entry : e ≡ (fact_key reference from to, fact_value (s.added reference from to))

-- the entry is one of the state's: that of the number of its objects, of an object, or of what was added of an edge
abbrev pub IsEntryOf : State → Entry → Type 0
IsEntryOf s e = (e ≡ (number_key, number_value (length s.objects))) ⊎ (IsObjectEntry s e ⊎ IsFactEntry s e)

-- the map has exactly the entries of the state, and no other
abbrev pub IsMapOf : State → List Entry → Type 0
IsMapOf s entries = (e : Entry) → Contains entries e ↔ IsEntryOf s e
