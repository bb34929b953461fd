-- What stands for a graph, with what was added to a state in the place of all that is known: of a graph that satisfies the
-- problem the rest is so anyway.
use Rattle.std.specs.Prelude.{◌≡◌, ℕ, ◌<◌, ◌≤◌, true, length}
use Rattle.std.specs.FinSet.{contains as contains_class}
use Rattle.rf_values.specs.Count.{contains}
use Rattle.rf_values.specs.Truth.{keeps}
use Rattle.rf_problem.specs.declared.problem.Problem.{Problem}
use Rattle.rf_graph.specs.Graph.{class_of, has_edge, origin_of, size_of}
use Rattle.rf_graph.specs.declared.graph.Graph.{Graph}
use Rattle.rf_state.specs.State.{State, object_of}
use Rattle.rf_placement.specs.Placement.{Placing, nodes_at}

-- as `StandsFor`, but of edges only what was added is so
pub record IsPlaced (p : Problem) (s : State) (g : Graph) (placing : Placing) : Type 0 where
  pub many : length p.objects ≤ length s.objects
  pub numbered : (o : ℕ) → o < length p.objects → (object_of s o).origin ≡ o
  pub objects : (x : ℕ) → x < size_of g → placing x < length s.objects
  pub origins : (x : ℕ) → x < size_of g → (object_of s (placing x)).origin ≡ origin_of g x
  pub counts : (o : ℕ) → o < length s.objects → contains (object_of s o).count (nodes_at g placing o) ≡ true
  pub classes : (x : ℕ) → x < size_of g → contains_class (object_of s (placing x)).candidates (class_of g x) ≡ true
  pub added : (r x y : ℕ) → r < length p.references → x < size_of g → y < size_of g
      → keeps (s.added r (placing x) (placing y)) (has_edge g r x y) ≡ true
