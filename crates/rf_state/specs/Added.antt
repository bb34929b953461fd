-- What a map has of what was added.
use Rattle.std.specs.Prelude.{ℕ, unwrap_or}
use Rattle.std.specs.BTreeMap.{BTreeMap, get}
use Rattle.std.specs.Ordering.{nat_cmp, ordering_then}
use Rattle.std.specs.declared.cmp.Ordering.{Ordering}
use Rattle.rf_values.specs.declared.truth.Truth.{Truth}
use Rattle.rf_values.specs.declared.truth.Truth.TheVariants.{Unknown}

-- a reference and two objects
abbrev pub Key : Type 0
Key = ℕ × ℕ × ℕ

-- the order of keys: by reference, then by the objects
abbrev pub key_cmp : Key → Key → Ordering
key_cmp a b = ordering_then (ordering_then (nat_cmp a.0 b.0) (nat_cmp a.1 b.1)) (nat_cmp a.2 b.2)

abbrev pub Added : Type 0
Added = BTreeMap Key Truth

-- what a map has of a reference and two objects, unknown where it has nothing
abbrev pub added_at : Added → ℕ → ℕ → ℕ → Truth
added_at added r a b = unwrap_or (get key_cmp added (r, a, b)) Unknown
