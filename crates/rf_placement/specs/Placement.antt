-- Graphs that a state stands for. A placing sends each node of a graph to one of the state's objects, which is then the object of
-- the node; the nodes that it sends to an object are the nodes of that object.
use Rattle.std.specs.Prelude.{◌≡◌, ℕ, ◌<◌, ◌≤◌, true, length}
use Rattle.std.specs.FinSet.{contains as contains_class}
use Rattle.rf_values.specs.Count.{contains}
use Rattle.rf_values.specs.Truth.{keeps}
use Rattle.rf_problem.specs.declared.problem.Problem.{Problem}
use Rattle.rf_graph.specs.Graph.{class_of, has_edge, origin_of, size_of}
use Rattle.rf_graph.specs.Violations.{Sat}
use Rattle.rf_graph.specs.declared.graph.Graph.{Graph}
use Rattle.rf_state.specs.State.{State, fact, object_of}
pub use Rattle.rf_rules.specs.Claims.{IsNodeOf, Placing, nodes_at}

-- a state stands for the nodes and edges of a graph: each object of the problem is there under its own number; each node has an
-- object, which comes from the object of the problem that the node comes from; each object has a number of nodes that its count
-- contains; the class of each node is a candidate of its object; and what is known of the edges from one object to another is so
-- of each node of the one and each node of the other
pub record StandsFor (p : Problem) (s : State) (g : Graph) (placing : Placing) : Type 0 where
  pub many : length p.objects ≤ length s.objects
  pub numbered : (o : ℕ) → o < length p.objects → (object_of s o).origin ≡ o
  pub objects : (x : ℕ) → x < size_of g → placing x < length s.objects
  pub origins : (x : ℕ) → x < size_of g → (object_of s (placing x)).origin ≡ origin_of g x
  pub counts : (o : ℕ) → o < length s.objects → contains (object_of s o).count (nodes_at g placing o) ≡ true
  pub classes : (x : ℕ) → x < size_of g → contains_class (object_of s (placing x)).candidates (class_of g x) ≡ true
  pub facts : (r x y : ℕ) → r < length p.references → x < size_of g → y < size_of g
      → keeps (fact p s r (placing x) (placing y)) (has_edge g r x y) ≡ true

-- a graph concretises a state: it satisfies the problem, and the state stands for it
pub record Concretises (p : Problem) (s : State) (g : Graph) (placing : Placing) : Type 0 where
  pub satisfies : Sat p g
  pub stands : StandsFor p s g placing

-- by some placing
abbrev pub IsConcretised : Problem → State → Graph → Type 0
IsConcretised p s g = (placing : Placing) × Concretises p s g placing
