-- Upper ends of counts, where `None` means unbounded.
use Rattle.std.specs.Prelude.{ℕ, zero, suc, ◌+◌, Bool, true, if◌then◌else◌, nat_le, Option, Some, None}

-- whether n is at most this end
abbrev pub within : ℕ → Option ℕ → Bool
within n None = true
within n (Some e) = nat_le n e

-- the sum of two ends: none where one of them is none
abbrev pub add_ends : Option ℕ → Option ℕ → Option ℕ
add_ends None b = None
add_ends (Some a) None = None
add_ends (Some a) (Some b) = Some (a + b)

-- the sum of the ends f over the numbers below n that pass
abbrev pub ends_below : ℕ → (ℕ → Bool) → (ℕ → Option ℕ) → Option ℕ
ends_below zero p f = Some 0
ends_below (suc n) p f = if p n then add_ends (ends_below n p f) (f n) else ends_below n p f
