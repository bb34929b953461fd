-- Sets of classes.
use Rattle.std.specs.Prelude.{◌≡◌, ◌↔◌, ℕ, zero, suc, Bool, true, if◌then◌else◌, nat_eq}
use Rattle.std.specs.Cmp.Lexicographic.{pointwise}
use Rattle.std.specs.Ordering.{nat_cmp}
use Rattle.std.specs.FinSet.{FinSet, contains, empty, insert, items}

-- the set of the numbers below n that pass
unfoldable pub members_below : ℕ → (ℕ → Bool) → FinSet nat_cmp
members_below zero p = empty
members_below (suc n) p = if p n then insert (members_below n p) n else members_below n p

-- whether two sets are the same, class by class
abbrev pub is_same_set : FinSet nat_cmp → FinSet nat_cmp → Bool
is_same_set a b = pointwise nat_eq (items a) (items b)

-- two sets that have the same classes are the same
abbrev pub SameMembersAreSameSet : Type 0
SameMembersAreSameSet =
    (a b : FinSet nat_cmp) → ((c : ℕ) → contains a c ≡ contains b c) → a ≡ b

-- the comparison of two sets says whether they are the same
abbrev pub EqualIsSameSet : Type 0
EqualIsSameSet =
    (a b : FinSet nat_cmp) → (is_same_set a b ≡ true) ↔ (a ≡ b)
