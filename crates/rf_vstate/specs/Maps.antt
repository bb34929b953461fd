-- Which state a map is.
use Rattle.std.specs.Prelude.{ℕ, if◌then◌else◌, ◌==◌, unwrap_or, Option, None, Some, List, [], ◌∷◌, map, slice_index, slice_index_or}
use Rattle.std.specs.List.{range_with_len}
use Rattle.rf_values.specs.Words.{marked}
use Rattle.rf_values.specs.declared.truth.Truth.{Truth}
use Rattle.rf_values.specs.declared.truth.Truth.TheVariants.{True, False, Unknown, Error}
use Rattle.rf_store.specs.Contents.{Version}
use Rattle.rf_store.specs.Entries.{Entry, value_at}
use Rattle.rf_state.specs.State.{State}
use Rattle.rf_state.specs.declared.object.Object.{Object}
use Rattle.rf_vstate.specs.Words.{fact_key, no_end, number_key, object_key}

-- the words at a key, zeros where there is no entry
abbrev pub words_at : List Entry → List ℕ → List ℕ
words_at entries k = unwrap_or (value_at entries k) (0 ∷ 0 ∷ 0 ∷ 0 ∷ 0 ∷ 0 ∷ 0 ∷ [])

-- the upper end that a word stands for
abbrev pub end_in : ℕ → Option ℕ
end_in word = if word == no_end then None else Some word

-- the object that the words of a value stand for
abbrev pub object_in : List ℕ → Object
object_in words = record {
  origin = slice_index words 0;
  count = record { lo = slice_index words 1; hi = end_in (slice_index words 2) };
  candidates = marked (slice_index words 3 ∷ slice_index words 4 ∷ slice_index words 5 ∷ slice_index words 6 ∷ []);
}

-- the truth that a word stands for
abbrev pub truth_in : ℕ → Truth
truth_in word = if word == 1 then True else if word == 2 then False else if word == 4 then Error else Unknown

-- how many objects a map has
abbrev pub number_in : List Entry → ℕ
number_in entries = slice_index (words_at entries number_key) 0

-- the state that a map is
abbrev pub state_of : List Entry → State
state_of entries = record {
  objects = map (λ o. object_in (words_at entries (object_key o))) (range_with_len 0 (number_in entries));
  added = λ r a b. truth_in (slice_index (words_at entries (fact_key r a b)) 0);
}

-- the map of a saved version
abbrev pub map_at : List Version → ℕ → List Entry
map_at saved place = (slice_index_or saved place (record { entries = []; rows = 0 })).entries

-- the states at these places
abbrev pub states_at : List Version → List ℕ → List State
states_at saved places = map (λ place. state_of (map_at saved place)) places
