-- Private: no public contract cites this.
-- Assertions whose first arguments are known.
use Rattle.std.specs.Prelude.{ℕ, Bool, false, nat_eq, ◌&&◌, Option, List, [], ◌∷◌}
use Rattle.std.specs.Option.{option_eq}
use Rattle.rf_problem.specs.Asserted.{match_each}
use Rattle.rf_problem.specs.Parts.{same_symbol}
use Rattle.rf_problem.specs.declared.assertion.Assertion.{Assertion}
use Rattle.rf_problem.specs.declared.symbol.Symbol.{Symbol}

-- whether the first arguments are these, and the others match the objects, one by one
abbrev pub begin : List (Option ℕ) → List ℕ → List (Option ℕ) → Bool
begin [] rest args = match_each args rest
begin (f ∷ first) rest [] = false
begin (f ∷ first) rest (a ∷ args) = option_eq nat_eq a f && begin first rest args

-- whether an assertion speaks of a symbol by such arguments
abbrev pub fits : Symbol → List (Option ℕ) → List ℕ → Assertion → Bool
fits s first rest a = same_symbol a.symbol s && begin first rest a.args
