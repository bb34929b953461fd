-- The first tuple of nodes that passes a test.
use Rattle.std.specs.Prelude.{◌≡◌, ◌<◌, ℕ, Bool, true, Option, List, length, slice_index, ◌==◌}
use Rattle.std.specs.Bool.{then_some}
use Rattle.std.specs.List.{list_any}
use Rattle.std.specs.Cmp.Lexicographic.{slice_cmp}
use Rattle.std.specs.Ordering.{nat_cmp}
use Rattle.rf_finite.specs.Firsts.{IsFirstOf}
use Rattle.rf_finite.specs.Tuples.{IsTuple, first_tuple}

-- it is the first tuple of m of n nodes that passes, or none does
abbrev pub IsFirst : ℕ → ℕ → (List ℕ → Bool) → Option (List ℕ) → Type 0
IsFirst n m test = IsFirstOf (slice_cmp nat_cmp) (λ t. IsTuple n m t × (test t ≡ true))

-- the first of the tuples that go on with so many of n nodes that passes
abbrev pub first_passing : ℕ → ℕ → List ℕ → (List ℕ → Bool) → Option (List ℕ)
first_passing n more t test = first_tuple n more t (λ u. then_some (test u) u)

-- these are, in ascending order, the numbers below n that pass
pub record ArePassing (n : ℕ) (test : ℕ → Bool) (items : List ℕ) : Type 0 where
  pub only : (i : ℕ) → i < length items → (slice_index items i < n) × (test (slice_index items i) ≡ true)
  pub ascending : (i j : ℕ) → i < j → j < length items → slice_index items i < slice_index items j
  pub complete : (x : ℕ) → x < n → test x ≡ true → list_any (λ y. y == x) items ≡ true
