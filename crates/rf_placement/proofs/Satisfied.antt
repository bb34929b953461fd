-- What holds of a graph that satisfies a problem, in the words of tests.
use Rattle.std.proofs.Common.{◌≡◌, ℕ, ◌≤◌, ◌<◌, true, not, ◌&&◌, ◌==◌, Some, List, length, map, All, refl}
use Rattle.std.specs.Prelude.{nat_le, nat_lt}
use Rattle.std.proofs.lemmas.Bool.{and_parts, and_from, eq-eqb, leb-true, lt-ltb, not_from_false}
use Rattle.rf_finite.specs.Ends.{within}
use Rattle.rf_finite.specs.Range.{count_below}
use Rattle.rf_finite.specs.Walks.{IsReachable}
use Rattle.rf_finite.proofs.Lists.{list_any-from_one}
use Rattle.rf_values.specs.Count.{contains}
use Rattle.rf_values.specs.Truth.{keeps}
use Rattle.rf_values.specs.declared.count.Count.{Count}
use Rattle.rf_problem.specs.Asserted.{admitted, asserted}
use Rattle.rf_problem.specs.Classes.{class_at, is_below, is_concrete, may_have_class}
use Rattle.rf_problem.specs.Contained.{is_contained_class, is_containing}
use Rattle.rf_problem.specs.Parts.{arity_of, object_at, reference_at, scope_at}
use Rattle.rf_problem.specs.Valid.{is_declared}
use Rattle.rf_problem.specs.declared.problem.Problem.{Problem}
use Rattle.rf_problem.specs.declared.symbol.Symbol.{Symbol}
use Rattle.rf_problem.proofs.Below.{IsBelow-from_is_below, is_below-from_IsBelow}
use Rattle.rf_graph.specs.Evaluate.{holds}
use Rattle.rf_graph.specs.Graph.{FitsEdge, class_of, has_edge, no_node, origin_of, size_of}
use Rattle.rf_graph.specs.Satisfied.{Satisfies}
use Rattle.rf_graph.specs.Violations.{Sat, contains_in, is_counted, nodes_from}
use Rattle.rf_graph.specs.declared.graph.Graph.{Graph}
use Rattle.rf_graph.specs.declared.graph.Edge.{Edge}
use Rattle.rf_graph.proofs.Edges.{HasEdge-from_has_edge, has_edge-from_HasEdge}
use Rattle.rf_graph.proofs.FirstOfKind.{edge-fits, test-from_MayHaveClass}
use Rattle.rf_graph.proofs.Satisfying.{Satisfies-from_Sat}

-- the two ends of a count that contains a number
pub contains_parts : (c : Count) (n : ℕ) → contains c n ≡ true → (c.lo ≤ n) × (within n c.hi ≡ true)
contains_parts c n h = let parts = and_parts (nat_le c.lo n) (within n c.hi) h in (leb-true c.lo n parts.0, parts.1)

module _ (p : Problem) (g : Graph) (sat : Sat p g) where
  pub satisfied : Satisfies p g
  satisfied = Satisfies-from_Sat p g sat.fits sat

  pub edge_fits : (r x y : ℕ) → has_edge g r x y ≡ true → FitsEdge p (size_of g) (record { reference = r; from = x; to = y })
  edge_fits r x y h = edge-fits p g sat.fits r x y (HasEdge-from_has_edge g r x y h)

  pub node_class_below : (x : ℕ) → x < size_of g → class_of g x < length p.classes
  node_class_below x l = (sat.fits.nodes x no_node l).class

  pub node_origin : (x : ℕ) → x < size_of g → origin_of g x < length p.objects
  node_origin x l = (sat.fits.nodes x no_node l).origin

  pub node_class : (x : ℕ) → x < size_of g → is_concrete p.classes (class_of g x) ≡ true
  node_class x l = and_from (nat_lt (class_of g x) (length p.classes)) (not (class_at p.classes (class_of g x)).is_abstract)
      (lt-ltb (class_of g x) (length p.classes) (node_class_below x l))
      (not_from_false (class_at p.classes (class_of g x)).is_abstract (satisfied.classes x l))

  -- the ends of an edge are of the classes that its reference leads between
  pub edge_ends : (r x y : ℕ) → has_edge g r x y ≡ true
      → (is_below p.classes (class_of g x) (reference_at p.references r).source ≡ true) × (is_below p.classes (class_of g y) (reference_at p.references r).target ≡ true)
  edge_ends r x y h =
      let ends = satisfied.edges r x y (HasEdge-from_has_edge g r x y h) in (
        is_below-from_IsBelow p.classes (class_of g x) (reference_at p.references r).source ends.source,
        is_below-from_IsBelow p.classes (class_of g y) (reference_at p.references r).target ends.target,
      )

  pub edge_back : (r s x y : ℕ) → (reference_at p.references r).opposite ≡ Some s → has_edge g r x y ≡ true → has_edge g s y x ≡ true
  edge_back r s x y e h = has_edge-from_HasEdge g s y x (satisfied.opposites r s x y (HasEdge-from_has_edge g r x y h) e)

  -- a node of a reference's source has as many edges of it as its range says
  pub degree : (r x : ℕ) → r < length p.references → x < size_of g → is_below p.classes (class_of g x) (reference_at p.references r).source ≡ true
      → ((reference_at p.references r).range.lo ≤ count_below (size_of g) (has_edge g r x)) × (within (count_below (size_of g) (has_edge g r x)) (reference_at p.references r).range.hi ≡ true)
  degree r x lr lx below = contains_parts (reference_at p.references r).range (count_below (size_of g) (has_edge g r x))
      (satisfied.degrees r x lr lx (IsBelow-from_is_below p.classes (class_of g x) (reference_at p.references r).source below))

  -- two edges that contain a node are one
  pub one_container : (r x q y z : ℕ) → is_containing p r ≡ true → is_containing p q ≡ true → has_edge g r x z ≡ true → has_edge g q y z ≡ true → (r ≡ q) × (x ≡ y)
  one_container r x q y z cr cq hr hq =
      (satisfied.containers z (edge_fits r x z hr).to_node).once r q x y cr cq (HasEdge-from_has_edge g r x z hr) (HasEdge-from_has_edge g q y z hq)

  -- a node whose class has to be contained is
  pub some_container : (z : ℕ) → z < size_of g → is_contained_class p (class_of g z) ≡ true
      → (r : ℕ) × (x : ℕ) × (r < length p.references) × (x < size_of g) × (is_containing p r ≡ true) × (has_edge g r x z ≡ true)
  some_container z l h =
      let held = (satisfied.containers z l).somewhere h in
      let edge = has_edge-from_HasEdge g held.r held.x z held.edge in
      let fit = edge_fits held.r held.x z edge in
      (held.r, held.x, fit.reference, fit.from_node, held.containing, edge)

  pub contains_in-edge : (r x y : ℕ) → is_containing p r ≡ true → has_edge g r x y ≡ true → contains_in p g x y ≡ true
  contains_in-edge r x y c h = list_any-from_one (λ (e : Edge). is_containing p e.reference && (e.from == x && e.to == y)) g.edges (record { reference = r; from = x; to = y })
      (HasEdge-from_has_edge g r x y h) (and_from (is_containing p r) (x == x && y == y) c (and_from (x == x) (y == y) (eq-eqb x x refl) (eq-eqb y y refl)))

  pub no_cycle : (x : ℕ) → x < size_of g → IsReachable (contains_in p g) (λ y. true) (size_of g) x x → ⊥
  no_cycle x l w = satisfied.no_cycle x l w

  pub object_count : (o : ℕ) → o < length p.objects → contains (admitted p o) (nodes_from g o) ≡ true
  object_count o l = (satisfied.objects o l).number

  -- the class of a node is one that nodes of its origin may have
  pub own_class : (x : ℕ) → x < size_of g → may_have_class p.classes (object_at p.objects (origin_of g x)).name (object_at p.objects (origin_of g x)).kind (class_of g x) ≡ true
  own_class x l = test-from_MayHaveClass p g (object_at p.objects (origin_of g x)).name (object_at p.objects (origin_of g x)).kind (class_of g x)
      ((satisfied.objects (origin_of g x) (node_origin x l)).classes x l refl)

  pub asserted_kept : (symbol : Symbol) (t : List ℕ) → is_declared (length p.classes) (length p.references) (length p.predicates) symbol ≡ true → length t ≡ arity_of p.predicates symbol
      → All (λ x. x < size_of g) t → keeps (asserted p symbol (map (origin_of g) t)) (holds p g symbol t) ≡ true
  asserted_kept symbol t d e l = satisfied.asserts symbol t d e l

  -- a scope counts as many nodes as its range says
  pub scope_count : (z : ℕ) → z < length p.scopes
      → ((scope_at p.scopes z).range.lo ≤ count_below (size_of g) (is_counted p g (scope_at p.scopes z))) × (within (count_below (size_of g) (is_counted p g (scope_at p.scopes z))) (scope_at p.scopes z).range.hi ≡ true)
  scope_count z l = contains_parts (scope_at p.scopes z).range (count_below (size_of g) (is_counted p g (scope_at p.scopes z))) (satisfied.scopes z l)
