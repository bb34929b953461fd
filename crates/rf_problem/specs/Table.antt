-- Private: no public contract cites this.
-- The table of what is heard of each symbol at each list of arguments.
use Rattle.std.specs.Prelude.{◌≡◌, ◌≤◌, ℕ, Bool, false, Option, None, List, length, slice_index_or, unwrap_or}
use Rattle.std.specs.BTreeMap.{BTreeMap, get}
use Rattle.rf_bounds.specs.declared.TheConstants.{MOST_PARAMETERS}
use Rattle.rf_problem.specs.Keys.{key_cmp, key_of, stars_of}
use Rattle.rf_problem.specs.Spoken.{heard_by, is_at}
use Rattle.rf_problem.specs.declared.assertion.Assertion.{Assertion}
use Rattle.rf_problem.specs.declared.heard.Heard.{Heard}
use Rattle.rf_problem.specs.declared.key.Key.{Key}
use Rattle.rf_problem.specs.declared.symbol.Symbol.{Symbol}

-- what no assertion says
abbrev pub nothing : Heard
nothing = record { ordinary = None; default = None }

-- what the map has at a key
abbrev pub heard_at : BTreeMap Key Heard → Key → Heard
heard_at table q = unwrap_or (get key_cmp table q) nothing

-- whether an assertion with `*` at just these places may be there
abbrev pub may_have : List Bool → List (Option ℕ) → Bool
may_have stars args = slice_index_or stars (stars_of args) false

-- the map has at each symbol and arguments what the assertions say there, and nothing is said where no assertion
-- has `*` at just these places
pub record IsTable (xs : List Assertion) (table : BTreeMap Key Heard) (stars : List Bool) : Type 0 where
  pub told : (s : Symbol) (args : List (Option ℕ)) → length args ≤ MOST_PARAMETERS → heard_at table (key_of s args) ≡ heard_by (is_at s args) xs
  pub silent : (s : Symbol) (args : List (Option ℕ)) → may_have stars args ≡ false → length args ≤ MOST_PARAMETERS → heard_by (is_at s args) xs ≡ nothing
  pub sixteen : length stars ≡ 16
