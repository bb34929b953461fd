-- Private: no public contract cites this.
-- Where a list has what is told of each edge: pairs of objects are numbered by the greater of the two, and each pair has a
-- cell for each reference, so that an object more adds cells at the end alone.
use Rattle.std.specs.Prelude.{◌≡◌, ℕ, ◌+◌, ◌*◌, if◌then◌else◌, nat_lt}

abbrev pub pair_number : ℕ → ℕ → ℕ
pair_number a b = if nat_lt b a then a * a + b else b * b + (b + a)

abbrev pub cell : ℕ → ℕ → ℕ → ℕ → ℕ
cell references r a b = pair_number a b * references + r

-- it is this edge
abbrev pub IsEdge : ℕ → ℕ → ℕ → ℕ → ℕ → ℕ → Type 0
IsEdge r a b k x y = (k ≡ r) × (x ≡ a) × (y ≡ b)
