-- How many nodes there may be: a lower end, and an upper end where `None` means unbounded.
use Rattle.std.specs.Prelude.{◌≡◌, ◌↔◌, ℕ, ◌+◌, ◌-◌, min, max, Bool, true, false, ◌&&◌, ◌==◌, nat_le, Option, Some, None}
use Rattle.rf_finite.specs.Ends.{within}
use Rattle.rf_values.specs.declared.count.Count.{Count}

-- the lesser of two upper ends
abbrev pub lesser_end : Option ℕ → Option ℕ → Option ℕ
lesser_end None b = b
lesser_end (Some a) None = Some a
lesser_end (Some a) (Some b) = Some (min a b)

-- an upper end less one, and not below 0
abbrev pub end_less_one : Option ℕ → Option ℕ
end_less_one None = None
end_less_one (Some a) = Some (a - 1)

-- whether the upper end is n
abbrev pub ends_at : ℕ → Option ℕ → Bool
ends_at n None = false
ends_at n (Some a) = a == n

-- the greater lower end and the lesser upper end
abbrev pub meet : Count → Count → Count
meet a b = record { lo = max a.lo b.lo; hi = lesser_end a.hi b.hi }

-- whether there may be n
abbrev pub contains : Count → ℕ → Bool
contains a n = nat_le a.lo n && within n a.hi

-- whether the count is 1 to 1
abbrev pub is_single : Count → Bool
is_single a = a.lo == 1 && ends_at 1 a.hi

-- each finite end less one, and not below 0
abbrev pub less_one : Count → Count
less_one a = record { lo = a.lo - 1; hi = end_less_one a.hi }

-- the counts that meet contain a number exactly where each does
abbrev pub MeetContainsCommon : Type 0
MeetContainsCommon =
    (a b : Count) (n : ℕ) → contains (meet a b) n ≡ (contains a n && contains b n)

-- 1 to 1 contains 1 alone, and no other count does
abbrev pub SingleIsOneToOne : Type 0
SingleIsOneToOne =
    (a : Count) → (is_single a ≡ true) ↔ ((n : ℕ) → (contains a n ≡ true) ↔ (n ≡ 1))

-- where there may be one or more, less one contains how many there may be beside one
abbrev pub LessOneContainsRest : Type 0
LessOneContainsRest =
    (a : Count) (n : ℕ) → within 1 a.hi ≡ true → contains (less_one a) n ≡ contains a (n + 1)
