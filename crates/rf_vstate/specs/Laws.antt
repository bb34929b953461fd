-- What holds of maps, and of the states that they are.
use Rattle.std.specs.Prelude.{◌≡◌, ◌↔◌, ℕ, List, Some, Contains}
use Rattle.rf_store.specs.Entries.{Entry, IsInOrder, value_at}

-- where a map is in order, a look-up gives a value exactly where the key has it in an entry
abbrev pub LookUpIsEntry : Type 0
LookUpIsEntry =
    (entries : List Entry) → IsInOrder entries → (k v : List ℕ) → (value_at entries k ≡ Some v) ↔ Contains entries (k, v)
