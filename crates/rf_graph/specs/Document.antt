-- The document of a graph.
use Rattle.std.specs.Prelude.{◌≡◌, ℕ, List, [], ◌∷◌, ◌++◌, codes, decimal, map, slice_get}
use Rattle.std.specs.Option.{option_map_or}
use Rattle.rf_text.specs.Line.{joined_lines}
use Rattle.rf_text.specs.Written.{written_name}
use Rattle.rf_problem.specs.declared.object.ObjectName.{ObjectName}
use Rattle.rf_problem.specs.declared.object.ObjectName.TheVariants.{Named, NewOf}
use Rattle.rf_problem.specs.declared.problem.Problem.{Problem}
use Rattle.rf_problem.specs.declared.symbol.Symbol.{Symbol}
use Rattle.rf_problem.specs.declared.symbol.Symbol.TheVariants.{Class, Reference, Predicate, Exists, Equals}
use Rattle.rf_graph.specs.declared.graph.Edge.{Edge}
use Rattle.rf_graph.specs.declared.graph.Graph.{Graph}
use Rattle.rf_graph.specs.declared.graph.Node.{Node}
use Rattle.rf_graph.specs.Graph.{Fits}

-- the name of the class of this number, as documents write it
abbrev pub class_name : Problem → ℕ → List ℕ
class_name p c = option_map_or (λ class. written_name class.name) (slice_get p.classes c) []

-- the name of a reference so written, after that of the class that declares it
abbrev pub reference_name : Problem → ℕ → List ℕ
reference_name p r =
    option_map_or (λ reference. class_name p reference.source ++ (codes "::" ++ written_name reference.name)) (slice_get p.references r) []

-- the name of a predicate
abbrev pub predicate_name : Problem → ℕ → List ℕ
predicate_name p q = option_map_or (λ predicate. written_name predicate.name) (slice_get p.predicates q) []

-- how an object that is called so is written
abbrev pub written_object : Problem → ObjectName → List ℕ
written_object p (Named name) = written_name name
written_object p (NewOf c) = class_name p c ++ codes "::new"

-- the name of the object of this number
abbrev pub object_name : Problem → ℕ → List ℕ
object_name p o = option_map_or (λ object. written_object p object.name) (slice_get p.objects o) []

-- the name of a symbol
abbrev pub symbol_name : Problem → Symbol → List ℕ
symbol_name p (Class c) = class_name p c
symbol_name p (Reference r) = reference_name p r
symbol_name p (Predicate q) = predicate_name p q
symbol_name p Exists = codes "exists"
symbol_name p Equals = codes "equals"

-- the line of a node: its class and the object that it comes from
abbrev pub node_line : Problem → Node → List ℕ
node_line p n = codes "node " ++ (class_name p n.class ++ (codes " " ++ object_name p n.origin))

-- the line of an edge: its reference, and the numbers of the nodes that it leads from and to
abbrev pub edge_line : Problem → Edge → List ℕ
edge_line p e =
    codes "edge " ++ (reference_name p e.reference ++ (codes " " ++ (decimal e.from ++ (codes " " ++ decimal e.to))))

-- the lines of a graph: a head, a line for each node, one for each edge, and the end
abbrev pub graph_lines : Problem → Graph → List (List ℕ)
graph_lines p g =
    codes "graph 1" ∷ (map (node_line p) g.nodes ++ (map (edge_line p) g.edges ++ codes "end" ∷ []))

-- the document of a graph: these lines, each ended by a line feed, and nothing after them
abbrev pub document : Problem → Graph → List ℕ
document p g = joined_lines (graph_lines p g)

-- the bytes are the document of a graph that fits the problem
pub record IsDocument (p : Problem) (g : Graph) (bytes : List ℕ) : Type 0 where
  pub fits : Fits p g
  pub spelled : bytes ≡ document p g
