-- Private: no public contract cites this.
-- What literals and clauses call.
use Rattle.std.specs.Prelude.{ℕ, Bool, false}
use Rattle.std.specs.List.{list_any}
use Rattle.rf_problem.specs.declared.predicate.Clause.{Clause}
use Rattle.rf_problem.specs.declared.predicate.Literal.{Literal}
use Rattle.rf_problem.specs.declared.predicate.Literal.TheVariants.{Call}
use Rattle.rf_problem.specs.declared.symbol.Symbol.TheVariants.{Predicate as Defined}

-- whether a literal calls a predicate that passes
abbrev pub calls_one_of : (ℕ → Bool) → Literal → Bool
calls_one_of passes (Call negated closure (Defined q) args) = passes q
calls_one_of passes _ = false

-- whether some literal of a clause does
abbrev pub clause_calls_one_of : (ℕ → Bool) → Clause → Bool
clause_calls_one_of passes c = list_any (calls_one_of passes) c.literals
