-- What holds of a graph that satisfies a problem, kind by kind.
use Rattle.std.specs.Prelude.{◌≡◌, ◌<◌, ℕ, true, false, Some, List, map, length, All}
use Rattle.rf_finite.specs.Range.{count_below}
use Rattle.rf_finite.specs.Walks.{HasNoCycle}
use Rattle.rf_values.specs.Count.{contains}
use Rattle.rf_values.specs.Truth.{keeps}
use Rattle.rf_problem.specs.Asserted.{admitted, asserted}
use Rattle.rf_problem.specs.Classes.{IsBelow, class_at}
use Rattle.rf_problem.specs.Contained.{is_contained_class, is_containing}
use Rattle.rf_problem.specs.Parts.{arity_of, object_at, reference_at, scope_at}
use Rattle.rf_problem.specs.Valid.{is_declared}
use Rattle.rf_problem.specs.declared.problem.Problem.{Problem}
use Rattle.rf_problem.specs.declared.symbol.Symbol.{Symbol}
use Rattle.rf_graph.specs.Evaluate.{holds}
use Rattle.rf_graph.specs.Graph.{HasEdge, class_of, origin_of, size_of}
use Rattle.rf_graph.specs.Violations.{MayHaveClass, contains_in, degree_of, is_counted, nodes_from}
use Rattle.rf_graph.specs.declared.graph.Graph.{Graph}

-- the ends of an edge of reference r are of the classes that it leads between
pub record FitsEnds (p : Problem) (g : Graph) (r x y : ℕ) : Type 0 where
  pub source : IsBelow p.classes (class_of g x) (reference_at p.references r).source
  pub target : IsBelow p.classes (class_of g y) (reference_at p.references r).target

-- an edge that contains node z
pub record HasContainer (p : Problem) (g : Graph) (z : ℕ) : Type 0 where
  pub r : ℕ
  pub x : ℕ
  pub containing : is_containing p r ≡ true
  pub edge : HasEdge g r x z

-- two edges that contain node z are the same, and there is one where a node of its class has to be contained
pub record IsContained (p : Problem) (g : Graph) (z : ℕ) : Type 0 where
  pub once : (q r x y : ℕ) → is_containing p q ≡ true → is_containing p r ≡ true → HasEdge g q x z → HasEdge g r y z → (q ≡ r) × (x ≡ y)
  pub somewhere : is_contained_class p (class_of g z) ≡ true → HasContainer p g z

-- object o has a number of nodes that it admits, and none of a class that they may not have
pub record IsSatisfied (p : Problem) (g : Graph) (o : ℕ) : Type 0 where
  pub number : contains (admitted p o) (nodes_from g o) ≡ true
  pub classes : (x : ℕ) → x < size_of g → origin_of g x ≡ o → MayHaveClass p.classes (object_at p.objects o).name (object_at p.objects o).kind (class_of g x)

-- what holds, kind by kind: no node's class is abstract; the ends of edges are of the classes that their references lead
-- between; the mirrored edge of an opposite is there; nodes of the source of a reference have as many edges as its range
-- says; nodes are contained once at most, and where they have to be; no node contains itself, directly or through others;
-- objects are satisfied; what is asserted at nodes is kept, error nowhere; scopes count as many nodes as their ranges say
pub record Satisfies (p : Problem) (g : Graph) : Type 0 where
  pub classes : (x : ℕ) → x < size_of g → (class_at p.classes (class_of g x)).is_abstract ≡ false
  pub edges : (r x y : ℕ) → HasEdge g r x y → FitsEnds p g r x y
  pub opposites : (r s x y : ℕ) → HasEdge g r x y → (reference_at p.references r).opposite ≡ Some s → HasEdge g s y x
  pub degrees : (r x : ℕ) → r < length p.references → x < size_of g → IsBelow p.classes (class_of g x) (reference_at p.references r).source
      → contains (reference_at p.references r).range (degree_of g r x) ≡ true
  pub containers : (z : ℕ) → z < size_of g → IsContained p g z
  pub no_cycle : HasNoCycle (contains_in p g) (size_of g)
  pub objects : (o : ℕ) → o < length p.objects → IsSatisfied p g o
  pub asserts : (symbol : Symbol) (t : List ℕ) → is_declared (length p.classes) (length p.references) (length p.predicates) symbol ≡ true
      → length t ≡ arity_of p.predicates symbol → All (λ x. x < size_of g) t
      → keeps (asserted p symbol (map (origin_of g) t)) (holds p g symbol t) ≡ true
  pub scopes : (s : ℕ) → s < length p.scopes
      → contains (scope_at p.scopes s).range (count_below (size_of g) (is_counted p g (scope_at p.scopes s))) ≡ true
