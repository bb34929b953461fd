-- Private: no public contract cites this.
-- Tables of the classes above each class, and below each.
use Rattle.std.specs.Prelude.{◌≡◌, ◌==◌, ◌<◌, ℕ, List, length, slice_index_or}
use Rattle.std.specs.FinSet.{FinSet, contains, empty}
use Rattle.std.specs.Ordering.{nat_cmp}
use Rattle.rf_problem.specs.Classes.{is_below, is_concrete}
use Rattle.rf_problem.specs.declared.class.Class.{Class}

-- the row of this number
abbrev pub row : List (FinSet nat_cmp) → ℕ → FinSet nat_cmp
row rows c = slice_index_or rows c empty

-- each row has its class alone
pub record AreSelves (classes : List Class) (rows : List (FinSet nat_cmp)) : Type 0 where
  pub same_length : length rows ≡ length classes
  pub alone : (c d : ℕ) → c < length classes → contains (row rows c) d ≡ (d == c)

-- each row has the classes that its class is below
pub record AreAbove (classes : List Class) (rows : List (FinSet nat_cmp)) : Type 0 where
  pub same_length : length rows ≡ length classes
  pub each : (c d : ℕ) → c < length classes → d < length classes → contains (row rows c) d ≡ is_below classes c d

-- there are n rows, and each has the classes below its class
pub record AreBelow (classes : List Class) (n : ℕ) (rows : List (FinSet nat_cmp)) : Type 0 where
  pub same_length : length rows ≡ n
  pub each : (c d : ℕ) → d < n → contains (row rows d) c ≡ is_below classes c d

-- the rows of all classes, and the classes that nodes may have
pub record IsOrder (classes : List Class) (rows : List (FinSet nat_cmp)) (concrete : FinSet nat_cmp) : Type 0 where
  pub below : AreBelow classes (length classes) rows
  pub concrete_are : (c : ℕ) → contains concrete c ≡ is_concrete classes c
