-- When a symbol holds at nodes of a graph, computed: the graph read at its nodes.
use Rattle.std.specs.Prelude.{ℕ, Bool, true, ◌==◌, not, List, length}
use Rattle.rf_problem.specs.Classes.{is_below}
use Rattle.rf_problem.specs.Reading.{Reading, predicate_true, symbol_true}
use Rattle.rf_problem.specs.declared.problem.Problem.{Problem}
use Rattle.rf_problem.specs.declared.symbol.Symbol.{Symbol}
use Rattle.rf_graph.specs.Graph.{class_of, has_edge, origin_of, size_of}
use Rattle.rf_graph.specs.declared.graph.Graph.{Graph}

-- a graph read at its nodes: variables range over all of them, and each comes from its object
abbrev pub graph_reading : Problem → Graph → Reading
graph_reading p g = record {
  size = size_of g;
  present = λ x. true;
  has_class = λ k x. is_below p.classes (class_of g x) k;
  has_edge = λ r x y. has_edge g r x y;
  is_same = λ x y. x == y;
  is_different = λ x y. not (x == y);
  origin = origin_of g;
}

-- whether a symbol holds at a tuple of nodes; calls go no deeper than there are predicates
abbrev pub holds : Problem → Graph → Symbol → List ℕ → Bool
holds p g symbol t =
    symbol_true (predicate_true p.predicates (length p.predicates)) (graph_reading p g) (graph_reading p g) symbol t
