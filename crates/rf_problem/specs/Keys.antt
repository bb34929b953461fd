-- Private: no public contract cites this.
-- Keys: a symbol and a list of arguments, of a fixed size.
use Rattle.std.specs.Prelude.{ℕ, ◌+◌, ◌*◌, Bool, true, false, ◌&&◌, nat_eq, Option, None, Some, List, [], ◌∷◌, slice_get}
use Rattle.std.specs.declared.cmp.Ordering.{Ordering}
use lib.Pointwise.{pointwise}
use Rattle.rf_problem.specs.Parts.{same_symbol}
use Rattle.rf_problem.specs.contracts.key.KeyOrd.TheImpl as key_ord
use Rattle.rf_problem.specs.contracts.key.PlaceOrd.TheImpl as place_ord
use Rattle.rf_problem.specs.declared.key.Key.{Key}
use Rattle.rf_problem.specs.declared.key.Place.{Place}
use Rattle.rf_problem.specs.declared.key.Place.TheVariants.{Absent, Star, Object}
use Rattle.rf_problem.specs.declared.symbol.Symbol.{Symbol}

-- the order of keys, and of what stands at a place
abbrev pub key_cmp : Key → Key → Ordering
key_cmp = (key_ord.ghosts).cmp

abbrev pub place_cmp : Place → Place → Ordering
place_cmp = (place_ord.ghosts).cmp

-- the object at a place, 0 where there is none
abbrev pub object_of : Option (Option ℕ) → ℕ
object_of None = 0
object_of (Some None) = 0
object_of (Some (Some o)) = o

-- what stands at a place
abbrev pub place_of : Option (Option ℕ) → Place
place_of None = Absent
place_of (Some None) = Star
place_of (Some (Some o)) = Object

-- the key of a symbol and arguments
abbrev pub key_of : Symbol → List (Option ℕ) → Key
key_of s args = record {
  objects = object_of (slice_get args 0) ∷ object_of (slice_get args 1) ∷ object_of (slice_get args 2) ∷ object_of (slice_get args 3) ∷ [];
  symbol = s;
  places = place_of (slice_get args 0) ∷ place_of (slice_get args 1) ∷ place_of (slice_get args 2) ∷ place_of (slice_get args 3) ∷ [];
}

abbrev pub same_place : Place → Place → Bool
same_place Absent Absent = true
same_place Star Star = true
same_place Object Object = true
same_place _ _ = false

-- whether two keys are the same
abbrev pub is_key : Key → Key → Bool
is_key k q = pointwise nat_eq k.objects q.objects && (same_symbol k.symbol q.symbol && pointwise same_place k.places q.places)

-- 1 where `*` stands
abbrev pub star : Option (Option ℕ) → ℕ
star None = 0
star (Some None) = 1
star (Some (Some o)) = 0

-- the number whose binary digits say at which of four places `*` stands
abbrev pub stars_of : List (Option ℕ) → ℕ
stars_of args = ((star (slice_get args 0) + 2 * star (slice_get args 1)) + 4 * star (slice_get args 2)) + 8 * star (slice_get args 3)
