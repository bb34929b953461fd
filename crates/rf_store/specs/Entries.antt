-- A finite map as the list of its entries, in the order of their keys.
use Rattle.std.specs.Prelude.{◌≡◌, ℕ, List, [], ◌∷◌, Some, None, Option}
use Rattle.std.specs.declared.cmp.Ordering.{Ordering}
use Rattle.std.specs.declared.cmp.Ordering.TheVariants.{Less}
use Rattle.std.specs.Ordering.{nat_cmp, match_ordering}
use Rattle.std.specs.Cmp.Lexicographic.{slice_cmp}

-- a key and its value, each a list of words
abbrev pub Entry : Type 0
Entry = List ℕ × List ℕ

-- keys are compared word by word, the first word first
unfoldable pub key_cmp : List ℕ → List ℕ → Ordering
key_cmp a b = slice_cmp nat_cmp a b

-- the key is below each key of the entries
abbrev pub IsBelowAll : List ℕ → List Entry → Type 0
IsBelowAll k [] = Unit {0}
IsBelowAll k (e ∷ es) = (key_cmp k e.0 ≡ Less) × IsBelowAll k es

-- each key is below all later keys
abbrev pub IsInOrder : List Entry → Type 0
IsInOrder [] = Unit {0}
IsInOrder (e ∷ es) = IsBelowAll e.0 es × IsInOrder es

-- the value of the entry that has the key
abbrev pub value_at : List Entry → List ℕ → Option (List ℕ)
value_at [] k = None
value_at (e ∷ es) k = match_ordering (key_cmp k e.0) (value_at es k) (Some e.1) (value_at es k)

-- the entries with this value at this key
abbrev pub with_entry : List Entry → List ℕ → List ℕ → List Entry
with_entry [] k v = (k, v) ∷ []
with_entry (e ∷ es) k v = match_ordering (key_cmp k e.0) ((k, v) ∷ e ∷ es) ((k, v) ∷ es) (e ∷ with_entry es k v)

-- the first entry whose key is not below the given one
abbrev pub first_from : List Entry → List ℕ → Option Entry
first_from [] k = None
first_from (e ∷ es) k = match_ordering (key_cmp k e.0) (Some e) (Some e) (first_from es k)
