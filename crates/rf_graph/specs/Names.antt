-- Private: no public contract cites this.
-- The classes, references and objects of a problem, found by their names.
use Rattle.std.specs.Prelude.{◌≡◌, ◌≢◌, ◌<◌, ℕ, List, [], ◌∷◌, ◌++◌, length, All, Option, None, Some, slice_index_or}
use Rattle.std.specs.BTreeMap.{BTreeMap, get_by}
use Rattle.std.specs.Cmp.Lexicographic.{slice_cmp}
use Rattle.std.specs.Ordering.{nat_cmp}
use denote.Ref.{Bor}

-- the name is that of this number
abbrev pub IsCalled : List (List ℕ) → ℕ → List ℕ → Type 0
IsCalled names k name = (k < length names) × (slice_index_or names k [] ≡ name)

-- the number that is stored under a name
abbrev pub number_of : BTreeMap (Bor (List ℕ)) ℕ → List ℕ → Option ℕ
number_of numbers name = get_by (λ key. slice_cmp nat_cmp name key.now) numbers

-- the numbers of the first names, so many, are stored, each under its name
pub record IsIndex (names : List (List ℕ)) (many : ℕ) (numbers : BTreeMap (Bor (List ℕ)) ℕ) : Type 0 where
  pub right : (name : List ℕ) (k : ℕ) → number_of numbers name ≡ Some k → (k < many) × (slice_index_or names k [] ≡ name)
  pub full : (k : ℕ) → k < many → number_of numbers (slice_index_or names k []) ≡ None → ⊥

-- the names are those of as many numbers
pub record AreNames (many : ℕ) (name_of : ℕ → List ℕ) (names : List (List ℕ)) : Type 0 where
  pub count : length names ≡ many
  pub each : (k : ℕ) → k < many → slice_index_or names k [] ≡ name_of k

-- the name is that of this number, below so many
abbrev pub IsNameOf : ℕ → (ℕ → List ℕ) → ℕ → List ℕ → Type 0
IsNameOf many name_of k name = (k < many) × (name_of k ≡ name)

-- the bytes have no space
abbrev pub NoSpace : List ℕ → Type 0
NoSpace bytes = All (λ b. b ≢ 32) bytes

-- the bytes before the last space, and those after it
pub record IsLastWord (bytes prefix word : List ℕ) : Type 0 where
  pub joined : bytes ≡ prefix ++ 32 ∷ word
  pub whole : NoSpace word
