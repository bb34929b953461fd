-- The graph of a final state: a node for each object that is one node, and the edges that are known to be there.
use Rattle.std.specs.Prelude.{ℕ, Bool, if◌then◌else◌, List, [], ◌∷◌, length, map, slice_index, unwrap_or}
use Rattle.std.specs.Bool.{then_some}
use Rattle.std.specs.FinSet.{contains}
use Rattle.rf_finite.specs.Passing.{joined, passing}
use Rattle.rf_finite.specs.Range.{first_below}
use Rattle.rf_values.specs.declared.truth.Truth.TheVariants.{True}
use Rattle.rf_problem.specs.declared.problem.Problem.{Problem}
use Rattle.rf_graph.specs.declared.graph.Edge.{Edge}
use Rattle.rf_graph.specs.declared.graph.Graph.{Graph}
use Rattle.rf_graph.specs.declared.graph.Node.{Node}
use Rattle.rf_state.specs.State.{State, fact, object_of}
use Rattle.rf_rules.specs.Effects.{is_same_truth}
use Rattle.rf_rules.specs.Words.{is_one}

-- the objects that are one node, in order; a node's number is its object's place among them
abbrev pub singles : State → List ℕ
singles s = passing (length s.objects) (is_one s)

abbrev pub single_at : State → ℕ → ℕ
single_at s x = slice_index (singles s) x

-- the first candidate of an object, which in a final state is the only one
abbrev pub class_in : Problem → State → ℕ → ℕ
class_in p s o = unwrap_or (first_below (length p.classes) (λ c. then_some (contains (object_of s o).candidates c) c)) 0

abbrev pub node_of : Problem → State → ℕ → Node
node_of p s o = record { class = class_in p s o; origin = (object_of s o).origin }

-- whether an edge is known to lead from node x to node y
abbrev pub is_edge : Problem → State → ℕ → ℕ → ℕ → Bool
is_edge p s r x y = is_same_truth (fact p s r (single_at s x) (single_at s y)) True

abbrev pub edge_if : Bool → ℕ → ℕ → ℕ → List Edge
edge_if there r x y = if there then record { reference = r; from = x; to = y } ∷ [] else []

-- the edges among so many nodes: those of a reference that lead from node x, those of a reference, and all, in order
abbrev pub row_edges : Problem → State → ℕ → ℕ → ℕ → List Edge
row_edges p s r x n = joined n (λ y. edge_if (is_edge p s r x y) r x y)

abbrev pub reference_edges : Problem → State → ℕ → ℕ → List Edge
reference_edges p s r n = joined n (λ x. row_edges p s r x n)

abbrev pub edges_of : Problem → State → ℕ → List Edge
edges_of p s n = joined (length p.references) (λ r. reference_edges p s r n)

abbrev pub graph_of : Problem → State → Graph
graph_of p s = record { nodes = map (node_of p s) (singles s); edges = edges_of p s (length (singles s)) }
