-- Private: no public contract cites this.
-- What the assertions that pass a test say together.
use Rattle.std.specs.Prelude.{ℕ, Bool, true, false, nat_eq, ◌&&◌, if◌then◌else◌, Option, None, Some, List, [], ◌∷◌, map, filter}
use Rattle.std.specs.Option.{option_eq}
use Rattle.rf_problem.specs.Merged.{joined, merged}
use Rattle.rf_problem.specs.Parts.{same_symbol}
use Rattle.rf_problem.specs.declared.assertion.Assertion.{Assertion}
use Rattle.rf_problem.specs.declared.heard.Heard.{Heard}
use Rattle.rf_problem.specs.declared.symbol.Symbol.{Symbol}

-- what both say
abbrev pub join : Heard → Heard → Heard
join h k = record { ordinary = joined h.ordinary k.ordinary; default = joined h.default k.default }

-- what one assertion says
abbrev pub spoken : Assertion → Heard
spoken a = record { ordinary = if a.is_default then None else Some a.value; default = if a.is_default then Some a.value else None }

-- what those say that pass
abbrev pub heard_by : (Assertion → Bool) → List Assertion → Heard
heard_by test xs = record {
  ordinary = merged (map (λ a. a.value) (filter (λ a. if a.is_default then false else test a) xs));
  default = merged (map (λ a. a.value) (filter (λ a. if a.is_default then test a else false) xs));
}

-- whether two lists of arguments are the same
abbrev pub same_args : List (Option ℕ) → List (Option ℕ) → Bool
same_args [] [] = true
same_args (a ∷ xs) (b ∷ ys) = option_eq nat_eq a b && same_args xs ys
same_args _ _ = false

-- whether an assertion speaks of a symbol with just these arguments
abbrev pub is_at : Symbol → List (Option ℕ) → Assertion → Bool
is_at s args a = same_symbol a.symbol s && same_args a.args args
