-- Private: no public contract cites this.
-- The values of added facts, copied within a map.
use Rattle.std.specs.Prelude.{◌≡◌, ◌≢◌, ◌<◌, ◌==◌, ◌&&◌, nat_lt, if◌then◌else◌, ℕ, Option, None, List}
use Rattle.rf_store.specs.Entries.{Entry, value_at}
use Rattle.rf_state.specs.State.{copied_from, is_at}
use Rattle.rf_vstate.specs.Words.{fact_key}
use Rattle.rf_vstate.specs.Rows.{AreOwn}

abbrev pub fact_at : List Entry → ℕ → ℕ → ℕ → Option (List ℕ)
fact_at entries r a b = value_at entries (fact_key r a b)

-- the new map has these values of facts, and at other keys what the old one has
pub record HasFacts (old new : List Entry) (facts : ℕ → ℕ → ℕ → Option (List ℕ)) : Type 0 where
  pub each : (r a b : ℕ) → fact_at new r a b ≡ facts r a b
  pub others : (k : List ℕ) → ((r a b : ℕ) → k ≢ fact_key r a b) → value_at new k ≡ value_at old k
  pub own : AreOwn new

-- the fact of a to b is also that of x to y
abbrev pub with_copy : List Entry → ℕ → ℕ → ℕ → ℕ → ℕ → ℕ → ℕ → ℕ → Option (List ℕ)
with_copy old r a b x y q u v = if is_at r x y q u v then fact_at old r a b else fact_at old q u v

-- the facts of objects below `end` to o are also those to n
abbrev pub with_copies_into : List Entry → ℕ → ℕ → ℕ → ℕ → ℕ → ℕ → ℕ → Option (List ℕ)
with_copies_into old r o n end q u v = if q == r && (v == n && nat_lt u end) then fact_at old r u o else fact_at old q u v

-- the facts of o to objects below `end` are also those of n
abbrev pub with_copies_from : List Entry → ℕ → ℕ → ℕ → ℕ → ℕ → ℕ → ℕ → Option (List ℕ)
with_copies_from old r o n end q u v = if q == r && (u == n && nat_lt v end) then fact_at old r o v else fact_at old q u v

-- n stands in the facts of one reference where o does
abbrev pub with_fresh_at : List Entry → ℕ → ℕ → ℕ → ℕ → ℕ → ℕ → Option (List ℕ)
with_fresh_at old r o n q u v = if q == r then fact_at old q (copied_from o n u) (copied_from o n v) else fact_at old q u v

-- and in those of all references below `end`
abbrev pub with_fresh_below : List Entry → ℕ → ℕ → ℕ → ℕ → ℕ → ℕ → Option (List ℕ)
with_fresh_below old end o n q u v = if nat_lt q end then fact_at old q (copied_from o n u) (copied_from o n v) else fact_at old q u v

-- facts of the reference are of objects below n alone
abbrev pub AreBelow : List Entry → ℕ → ℕ → Type 0
AreBelow entries r n = (a b : ℕ) → fact_at entries r a b ≢ None → (a < n) × (b < n)
