-- Graphs: their nodes and edges by number, and which fit a problem.
use Rattle.std.specs.Prelude.{◌≢◌, ◌<◌, ◌==◌, ◌&&◌, ℕ, Bool, length, All, AllPairs, Contains, slice_index_or}
use Rattle.std.specs.List.{list_any}
use Rattle.rf_problem.specs.declared.problem.Problem.{Problem}
use Rattle.rf_graph.specs.declared.graph.Edge.{Edge}
use Rattle.rf_graph.specs.declared.graph.Graph.{Graph}
use Rattle.rf_graph.specs.declared.graph.Node.{Node}

-- what stands where no node has the number
abbrev pub no_node : Node
no_node = record { class = 0; origin = 0 }

-- how many nodes there are
abbrev pub size_of : Graph → ℕ
size_of g = length g.nodes

-- the class of a node
abbrev pub class_of : Graph → ℕ → ℕ
class_of g x = (slice_index_or g.nodes x no_node).class

-- the object that a node comes from
abbrev pub origin_of : Graph → ℕ → ℕ
origin_of g x = (slice_index_or g.nodes x no_node).origin

-- an edge of reference r leads from node x to node y
abbrev pub HasEdge : Graph → ℕ → ℕ → ℕ → Type 0
HasEdge g r x y = Contains g.edges record { reference = r; from = x; to = y }

-- whether it does
abbrev pub has_edge : Graph → ℕ → ℕ → ℕ → Bool
has_edge g r x y = list_any (λ e. e.reference == r && (e.from == x && e.to == y)) g.edges

-- the numbers of a node stand for a class and for an object of the problem
pub record FitsNode (p : Problem) (n : Node) : Type 0 where
  pub class : n.class < length p.classes
  pub origin : n.origin < length p.objects

-- the numbers of an edge stand for a reference of the problem and for two of so many nodes
pub record FitsEdge (p : Problem) (nodes : ℕ) (e : Edge) : Type 0 where
  pub reference : e.reference < length p.references
  pub from_node : e.from < nodes
  pub to_node : e.to < nodes

-- the numbers of every node and edge stand for something, and no two edges are the same
pub record Fits (p : Problem) (g : Graph) : Type 0 where
  pub nodes : All (FitsNode p) g.nodes
  pub edges : All (FitsEdge p (length g.nodes)) g.edges
  pub distinct : AllPairs (λ e f. e ≢ f) g.edges
