-- Private: no public contract cites this.
-- Objects that are listed for a reference and an object, or `*`.
use Rattle.std.specs.Prelude.{◌≡◌, ◌==◌, ◌&&◌, ◌||◌, ◌<◌, slice_index, nat_eq, ℕ, Bool, true, Option, None, Some, List, [], Vec}
use Rattle.std.specs.BTreeMap.{BTreeMap, get}
use Rattle.std.specs.List.{list_any}
use Rattle.std.specs.Option.{option_cmp, option_eq}
use Rattle.std.specs.Ordering.{nat_cmp, ordering_then}
use Rattle.std.specs.declared.alloc.Global.{Global}
use Rattle.std.specs.declared.cmp.Ordering.{Ordering}

-- a reference, and an object at one end of its edges, or `*`
abbrev pub End : Type 0
End = ℕ × Option ℕ

-- the order of ends: by reference, then by object, `*` before them
abbrev pub end_cmp : End → End → Ordering
end_cmp a b = ordering_then (nat_cmp a.0 b.0) (option_cmp nat_cmp a.1 b.1)

-- whether two ends are the same
abbrev pub is_end : End → End → Bool
is_end a b = a.0 == b.0 && option_eq nat_eq a.1 b.1

abbrev pub Lists : Type 0
Lists = BTreeMap End (Vec ℕ Global)

abbrev pub items_of : Option (Vec ℕ Global) → List ℕ
items_of None = []
items_of (Some v) = v.items

-- the objects that are listed for an end, none where it has no list
abbrev pub listed_at : Lists → End → List ℕ
listed_at lists end = items_of (get end_cmp lists end)

-- whether an object is listed
abbrev pub is_listed : Lists → ℕ → Option ℕ → ℕ → Bool
is_listed lists r x b = list_any (λ y. y == b) (listed_at lists (r, x))

-- an object is listed for an end, beside those that were
abbrev pub IsListedToo : Lists → End → ℕ → Lists → Type 0
IsListedToo old end b new = (r : ℕ) (x : Option ℕ) (c : ℕ) → is_listed new r x c ≡ (is_listed old r x c || (is_end end (r, x) && b == c))

-- the same objects are listed
abbrev pub AreSameLists : Lists → Lists → Type 0
AreSameLists old new = (r : ℕ) (x : Option ℕ) (c : ℕ) → is_listed new r x c ≡ is_listed old r x c

-- all objects that are listed are below n
abbrev pub AreBelow : ℕ → Lists → Type 0
AreBelow n lists = (r : ℕ) (x : Option ℕ) (b : ℕ) → is_listed lists r x b ≡ true → b < n

-- the numbers below n, in order
abbrev pub AreNumbers : ℕ → List ℕ → Type 0
AreNumbers n numbers = (o : ℕ) → o < n → slice_index numbers o ≡ o
