-- Private: no public contract cites this.
-- What one round adds to a table of the classes above each class.
use Rattle.std.specs.Prelude.{◌≡◌, ℕ, ◌<◌, true, List}
use Rattle.std.specs.FinSet.{FinSet, contains}
use Rattle.std.specs.Ordering.{nat_cmp}
use Rattle.rf_problem.specs.Above.{row}
use Rattle.rf_problem.specs.Classes.{IsBelow, extends}
use Rattle.rf_problem.specs.declared.class.Class.{Class}

-- the rows have nothing but classes above
abbrev pub AreSound : List Class → List (FinSet nat_cmp) → Type 0
AreSound classes rows = (c d : ℕ) → contains (row rows c) d ≡ true → IsBelow classes c d

-- the second rows have what the first have
abbrev pub AreWithin : List (FinSet nat_cmp) → List (FinSet nat_cmp) → Type 0
AreWithin rows more = (c d : ℕ) → contains (row rows c) d ≡ true → contains (row more c) d ≡ true

-- the new rows of the classes below i have what the old rows of the classes that they extend have
abbrev pub HaveThrough : List Class → ℕ → List (FinSet nat_cmp) → List (FinSet nat_cmp) → Type 0
HaveThrough classes i old now =
    (c s d : ℕ) → c < i → extends classes c s ≡ true → contains (row old s) d ≡ true → contains (row now c) d ≡ true
