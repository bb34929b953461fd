-- Values of predicates and walks that are kept.
use Rattle.std.specs.Prelude.{◌≡◌, ◌<◌, ℕ, Bool, true, false, if◌then◌else◌, List}
use Rattle.std.specs.List.{list_any}
use Rattle.rf_finite.specs.Tuples.{IsTuple}
use Rattle.rf_values.specs.declared.truth.Truth.{Truth}
use Rattle.rf_problem.specs.Parts.{predicate_at, same_symbol}
use Rattle.rf_problem.specs.declared.predicate.Literal.{Literal}
use Rattle.rf_problem.specs.declared.predicate.Literal.TheVariants.{Call}
use Rattle.rf_problem.specs.declared.problem.Problem.{Problem}
use Rattle.rf_problem.specs.declared.symbol.Symbol.{Symbol}
use Rattle.rf_problem.specs.declared.symbol.Symbol.TheVariants.{Predicate}
use Rattle.rf_evaluate.specs.Known.{Known, value_of, walk_of}
use Rattle.rf_renewal.specs.Changes.{Changes, may_change, row_may_change}
use Rattle.rf_renewal.specs.Covered.{Done, is_ready, steps_ready}

-- whether a literal asks for a walk of a symbol's steps, and whether some literal of the problem's predicates does
abbrev pub asks_for_walk : Symbol → Literal → Bool
asks_for_walk symbol (Call negated true called args) = same_symbol called symbol
asks_for_walk symbol _ = false

abbrev pub is_walked : Problem → Symbol → Bool
is_walked p symbol = list_any (λ d. list_any (λ c. list_any (asks_for_walk symbol) c.literals) d.clauses) p.predicates

-- a truth for each predicate and tuple, and for each symbol and two elements
pub record Table : Type 0 where
  pub values : ℕ → List ℕ → Truth
  pub walks : Symbol → ℕ → ℕ → Truth

-- they are what is known of predicates, and of the walks that some literal asks for
pub record IsRight (k : Known) (table : Table) : Type 0 where
  pub values : (q : ℕ) (t : List ℕ) → IsTuple k.size (predicate_at k.problem.predicates q).arity t
      → table.values q t ≡ value_of k (Predicate q) t
  pub walks : (symbol : Symbol) (x y : ℕ) → is_walked k.problem symbol ≡ true → x < k.size → y < k.size
      → table.walks symbol x y ≡ walk_of k symbol x y

-- all that predicates, and the walks that are kept, rest on was compared
pub record IsAllReady (p : Problem) (done : Done) : Type 0 where
  pub predicates : (q : ℕ) → is_ready p done q ≡ true
  pub walks : (symbol : Symbol) → is_walked p symbol ≡ true → steps_ready done symbol ≡ true

-- a table with the truths that the filters let through taken anew
abbrev pub renewed : Known → Known → Changes → Table → Table
renewed was now changes table = record {
  values = λ q t. if may_change was changes q t then value_of now (Predicate q) t else table.values q t;
  walks = λ symbol x y. if row_may_change was changes symbol x then walk_of now symbol x y else table.walks symbol x y;
}
