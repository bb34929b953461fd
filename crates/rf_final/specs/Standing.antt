-- For proofs: which nodes a state has, whatever is known of edges, and that each object of the problem is there.
use Rattle.std.specs.Prelude.{◌≡◌, ℕ, ◌<◌, ◌≤◌, true, length}
use Rattle.std.specs.FinSet.{contains as contains_class}
use Rattle.rf_values.specs.Count.{contains}
use Rattle.rf_problem.specs.declared.problem.Problem.{Problem}
use Rattle.rf_graph.specs.Graph.{class_of, origin_of, size_of}
use Rattle.rf_graph.specs.declared.graph.Graph.{Graph}
use Rattle.rf_state.specs.State.{State, object_of}
use Rattle.rf_placement.specs.Placement.{Placing, nodes_at}

-- the state stands for the nodes of a graph: each has an object of its origin, of which its class is a candidate, and each object has
-- a number of nodes that its count contains
pub record HasNodes (s : State) (g : Graph) (placing : Placing) : Type 0 where
  pub objects : (x : ℕ) → x < size_of g → placing x < length s.objects
  pub origins : (x : ℕ) → x < size_of g → (object_of s (placing x)).origin ≡ origin_of g x
  pub counts : (o : ℕ) → o < length s.objects → contains (object_of s o).count (nodes_at g placing o) ≡ true
  pub classes : (x : ℕ) → x < size_of g → contains_class (object_of s (placing x)).candidates (class_of g x) ≡ true

-- each object of the problem is there, under its own number
pub record IsStocked (p : Problem) (s : State) : Type 0 where
  pub many : length p.objects ≤ length s.objects
  pub numbered : (o : ℕ) → o < length p.objects → (object_of s o).origin ≡ o
