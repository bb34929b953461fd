-- When a class, a reference or a predicate holds at nodes of a graph, in words of graphs.
use Rattle.std.specs.Prelude.{◌≡◌, ◌≢◌, ◌<◌, ℕ, List}
use Rattle.rf_problem.specs.Classes.{IsBelow}
use Rattle.rf_problem.specs.Holds.{Interpretation, Meaning, SaysItsClauses, SymbolHolds}
use Rattle.rf_problem.specs.declared.problem.Problem.{Problem}
use Rattle.rf_problem.specs.declared.symbol.Symbol.{Symbol}
use Rattle.rf_graph.specs.Graph.{HasEdge, class_of, origin_of, size_of}
use Rattle.rf_graph.specs.declared.graph.Graph.{Graph}

-- a graph as an interpretation, with what predicates say: variables range over its nodes; a class holds at a node whose class
-- is below it, a reference where an edge of it leads
abbrev pub graph_words : Problem → Graph → Meaning → Interpretation
graph_words p g says = record {
  IsPresent = λ x. x < size_of g;
  ComesFrom = λ o x. origin_of g x ≡ o;
  HasClass = λ k x. IsBelow p.classes (class_of g x) k;
  HasEdge = HasEdge g;
  AreSame = λ x y. x ≡ y;
  AreDifferent = λ x y. x ≢ y;
  says = says;
}

-- a meaning of the predicates: each holds at just those tuples of as many nodes as it has parameters where its clauses say so
abbrev pub IsMeaning : Problem → Graph → Meaning → Type 0
IsMeaning p g says = SaysItsClauses p.predicates (graph_words p g says) (graph_words p g says)

-- a symbol holds at a tuple of nodes, by a meaning of the predicates; a law says that they have just one
pub record Holds (p : Problem) (g : Graph) (symbol : Symbol) (t : List ℕ) : Type 0 where
  pub says : Meaning
  pub meaning : IsMeaning p g says
  pub symbol_holds : SymbolHolds (graph_words p g says) symbol t
