-- The kinds of symbols of which something is asserted of nodes.
use Rattle.std.specs.Prelude.{◌≡◌, ◌<◌, ℕ, None, Some, Option, List, Vec, length}
use Rattle.std.specs.declared.alloc.Global.{Global}
use Rattle.rf_finite.specs.Range.{first_below}
use Rattle.rf_problem.specs.declared.problem.Problem.{Problem}
use Rattle.rf_problem.specs.declared.symbol.Symbol.{Symbol}
use Rattle.rf_problem.specs.declared.symbol.Symbol.TheVariants.{Class, Reference, Predicate}
use Rattle.rf_graph.specs.First.{first_broken}
use Rattle.rf_graph.specs.declared.graph.Graph.{Graph}
use Rattle.rf_graph.specs.declared.verdict.Violation.{Violation}
use Rattle.rf_satisfy.specs.NodeLists.{row_of}
use Rattle.rf_satisfy.specs.Suspects.{speaks_at}
use Rattle.rf_satisfy.specs.Tuples.{ArePassing}
use Rattle.rf_satisfy.specs.declared.kinds.asserted.SymbolKind.{SymbolKind}
use Rattle.rf_satisfy.specs.declared.kinds.asserted.SymbolKind.TheVariants.{Classes, References, Predicates}

-- how many symbols of a kind a problem declares
abbrev pub count_of : Problem → SymbolKind → ℕ
count_of p Classes = length p.classes
count_of p References = length p.references
count_of p Predicates = length p.predicates

-- the symbol of a kind that has this number
abbrev pub symbol_of : SymbolKind → ℕ → Symbol
symbol_of Classes k = Class k
symbol_of References k = Reference k
symbol_of Predicates k = Predicate k

-- the number of a symbol, where it is of this kind
abbrev pub number_of : SymbolKind → Symbol → Option ℕ
number_of Classes (Class k) = Some k
number_of References (Reference k) = Some k
number_of Predicates (Predicate k) = Some k
number_of _ _ = None

-- for each symbol of a kind its row has the numbers, of the first n assertions, of those that speak of it
pub record AreNumbered (p : Problem) (kind : SymbolKind) (n : ℕ) (rows : List (Vec ℕ Global)) : Type 0 where
  pub len : length rows ≡ count_of p kind
  pub each : (k : ℕ) → k < count_of p kind → ArePassing n (speaks_at p (symbol_of kind k)) (row_of rows k)

-- the first tuple of nodes at which what is asserted of a symbol of this kind isn't satisfied
abbrev pub first_of_kind : Problem → Graph → SymbolKind → Option Violation
first_of_kind p g kind = first_below (count_of p kind) (λ k. first_broken p g (symbol_of kind k))
