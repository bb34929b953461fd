-- Private: no public contract cites this.
-- What is done with the tuples that a search meets, and their values.
use Rattle.std.specs.Prelude.{◌≡◌, ◌⊎◌, ◌||◌, ℕ, Bool, true, Option, None, Some, List, unwrap_or}
use Rattle.std.specs.BTreeMap.{BTreeMap, get}
use Rattle.std.specs.Cmp.Lexicographic.{slice_cmp}
use Rattle.std.specs.Option.{is_some}
use Rattle.std.specs.Ordering.{nat_cmp}
use Rattle.std.specs.declared.cmp.Ordering.TheVariants.{Less}
use Rattle.rf_values.specs.Truth.{may, must}
use Rattle.rf_values.specs.declared.truth.Truth.{Truth}
use Rattle.rf_values.specs.declared.truth.Truth.TheVariants.{False}

-- what can be told of a fact: that it has to hold, that it can, and that one of both is so
pub data Column : Type 0 where
  Must : Column
  May : Column
  Either : Column

-- whether a truth tells it
abbrev pub tells : Column → Truth → Bool
tells Must v = must v
tells May v = may v
tells Either v = must v || may v

-- what was met of tuples is covered after it, and what was covered still is; what is there was there before
-- or was met
pub record HasGathered {G : Type 0} (has covers : G → List ℕ → Column → Type 0) (Met : List ℕ → Column → Type 0)
    (before after : G) : Type 0 where
  pub met : (t : List ℕ) (c : Column) → Met t c → covers after t c
  pub still : (t : List ℕ) (c : Column) → covers before t c → covers after t c
  pub no_more : (t : List ℕ) (c : Column) → has after t c → has before t c ⊎ Met t c

-- it is the first tuple, of which is told that it isn't false
abbrev pub IsFirst : Option (List ℕ) → List ℕ → Column → Type 0
IsFirst first t c = (first ≡ Some t) × (c ≡ Either)

-- there is a first tuple, and it doesn't come after t
abbrev pub IsNotAfter : Option (List ℕ) → List ℕ → Column → Type 0
IsNotAfter None t c = ⊥
IsNotAfter (Some first) t c = slice_cmp nat_cmp t first ≡ Less → ⊥

-- the value that is kept for a tuple
abbrev pub truth_at : BTreeMap (List ℕ) Truth → List ℕ → Truth
truth_at values t = unwrap_or (get (slice_cmp nat_cmp) values t) False

-- whether the values that are kept tell something of a tuple
abbrev pub keeps : BTreeMap (List ℕ) Truth → List ℕ → Column → Bool
keeps values t Must = must (truth_at values t)
keeps values t May = may (truth_at values t)
keeps values t Either = is_some (get (slice_cmp nat_cmp) values t)

-- they do
abbrev pub AreKeeping : BTreeMap (List ℕ) Truth → List ℕ → Column → Type 0
AreKeeping values t c = keeps values t c ≡ true
