-- Elements that come into question.
use Rattle.std.specs.Prelude.{ℕ, Bool, nat_lt, ◌==◌, ◌<◌, ◌≤◌, All, length, slice_index}
use Rattle.std.specs.List.{list_any}
use Rattle.rf_evaluate.specs.declared.elements.Elements.{Elements}
use Rattle.rf_evaluate.specs.declared.elements.Elements.TheVariants.{Below, Listed}

-- whether x is one of them
abbrev pub includes : Elements → ℕ → Bool
includes (Below n) x = nat_lt x n
includes (Listed items) x = list_any (λ y. y == x) items.now

-- all of them are below n
abbrev pub AreBelow : ℕ → Elements → Type 0
AreBelow n (Below m) = m ≤ n
AreBelow n (Listed items) = All (λ x. x < n) items.now

-- how many there are, and the one of a number
abbrev pub count : Elements → ℕ
count (Below n) = n
count (Listed items) = length items.now

abbrev pub element_at : Elements → ℕ → ℕ
element_at (Below n) i = i
element_at (Listed items) i = slice_index items.now i
