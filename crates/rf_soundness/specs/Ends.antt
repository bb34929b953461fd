-- Upper ends of counts and of sums of counts, in words.
use Rattle.std.specs.Prelude.{◌≡◌, ◌<◌, ◌≤◌, ℕ, Option, None, Some}

-- an upper end is finite, is less than n, is at most n, is at least n; where there is none, it is at least every number
abbrev pub IsFinite : Option ℕ → Type 0
IsFinite end = (m : ℕ) × (end ≡ Some m)

abbrev pub IsLess : Option ℕ → ℕ → Type 0
IsLess end n = (m : ℕ) × (end ≡ Some m) × (m < n)

abbrev pub IsAtMost : Option ℕ → ℕ → Type 0
IsAtMost end n = (m : ℕ) × (end ≡ Some m) × (m ≤ n)

abbrev pub IsAtLeast : Option ℕ → ℕ → Type 0
IsAtLeast None n = Unit {0}
IsAtLeast (Some m) n = n ≤ m
