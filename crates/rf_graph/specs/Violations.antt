-- When a graph satisfies a problem: the nine kinds of violation in words of graphs, their order, and the first.
use Rattle.std.specs.Prelude.{◌≡◌, ◌<◌, ◌≤◌, ◌⊎◌, ◌==◌, ◌&&◌, ◌||◌, not, ℕ, Bool, true, false, Option, None, Some, List, [], ◌∷◌, map, length, All}
use Rattle.std.specs.List.{list_any}
use Rattle.std.specs.Cmp.Lexicographic.{slice_cmp}
use Rattle.std.specs.Ordering.{nat_cmp}
use Rattle.std.specs.declared.cmp.Ordering.TheVariants.{Less}
use Rattle.rf_finite.specs.Range.{count_below, sum_below}
use Rattle.rf_finite.specs.Walks.{IsReachable}
use Rattle.rf_values.specs.Count.{contains}
use Rattle.rf_values.specs.declared.truth.Truth.{Truth}
use Rattle.rf_values.specs.declared.truth.Truth.TheVariants.{True, False, Unknown, Error}
use Rattle.rf_problem.specs.Asserted.{admitted, asserted}
use Rattle.rf_problem.specs.Parts.{arity_of, object_at, reference_at, scope_at}
use Rattle.rf_problem.specs.Classes.{IsBelow, class_at}
use Rattle.rf_problem.specs.Contained.{is_contained_class, is_containing}
use Rattle.rf_problem.specs.Counted.{counts_origin, has_scope_class}
use Rattle.rf_problem.specs.Valid.{is_declared}
use Rattle.rf_problem.specs.declared.class.Class.{Class as ClassDecl}
use Rattle.rf_problem.specs.declared.object.ObjectKind.{ObjectKind}
use Rattle.rf_problem.specs.declared.object.ObjectKind.TheVariants.{Plain, Atom, LiteralOf}
use Rattle.rf_problem.specs.declared.object.ObjectName.{ObjectName}
use Rattle.rf_problem.specs.declared.object.ObjectName.TheVariants.{Named, NewOf}
use Rattle.rf_problem.specs.declared.problem.Problem.{Problem}
use Rattle.rf_problem.specs.declared.scope.Scope.{Scope as Bound}
use Rattle.rf_problem.specs.declared.symbol.Symbol.{Symbol}
use Rattle.rf_problem.specs.declared.symbol.Symbol.TheVariants.{Class as OfClass, Reference, Predicate, Exists, Equals}
use Rattle.rf_graph.specs.Graph.{Fits, HasEdge, class_of, has_edge, origin_of, size_of}
use Rattle.rf_graph.specs.Holds.{Holds}
use Rattle.rf_graph.specs.declared.graph.Graph.{Graph}
use Rattle.rf_graph.specs.declared.verdict.Verdict.{Verdict}
use Rattle.rf_graph.specs.declared.verdict.Verdict.TheVariants.{Satisfied, Violated}
use Rattle.rf_graph.specs.declared.verdict.Violation.{Violation}
use Rattle.rf_graph.specs.declared.verdict.Violation.TheVariants.{Class, Edge, Opposite, Degree, Containers, Cycle, Object, Asserted, Scope}

-- the class of node x is abstract
pub record IsOfAbstractClass (p : Problem) (g : Graph) (x : ℕ) : Type 0 where
  pub node : x < size_of g
  pub abstract_class : (class_at p.classes (class_of g x)).is_abstract ≡ true

-- an edge of reference r leads from x to y, and the class of x isn't below its source, or that of y below its target
pub record IsMisplaced (p : Problem) (g : Graph) (r x y : ℕ) : Type 0 where
  pub edge : HasEdge g r x y
  pub ends : IsBelow p.classes (class_of g x) (reference_at p.references r).source
      → IsBelow p.classes (class_of g y) (reference_at p.references r).target → ⊥

-- an edge of reference r leads from x to y, and none of its opposite s from y to x
pub record IsOneWay (p : Problem) (g : Graph) (r x y : ℕ) : Type 0 where
  pub edge : HasEdge g r x y
  pub s : ℕ
  pub opposite : (reference_at p.references r).opposite ≡ Some s
  pub missing : HasEdge g s y x → ⊥

-- how many edges of reference r lead from node x
abbrev pub degree_of : Graph → ℕ → ℕ → ℕ
degree_of g r x = count_below (size_of g) (λ y. has_edge g r x y)

-- node x has a class below the source of reference r, and not as many edges of it as its range says
pub record IsOutOfRange (p : Problem) (g : Graph) (r x : ℕ) : Type 0 where
  pub reference : r < length p.references
  pub node : x < size_of g
  pub source : IsBelow p.classes (class_of g x) (reference_at p.references r).source
  pub outside : contains (reference_at p.references r).range (degree_of g r x) ≡ false

-- how many pairs there are of a reference that contains and a node from which an edge of it leads to node z
abbrev pub container_count : Problem → Graph → ℕ → ℕ
container_count p g z =
    sum_below (length p.references) (is_containing p) (λ r. count_below (size_of g) (λ x. has_edge g r x z))

-- node z is in more than one such pair, or in none though its class is below the target of some reference that contains
pub record IsWronglyContained (p : Problem) (g : Graph) (z : ℕ) : Type 0 where
  pub node : z < size_of g
  pub pairs : (2 ≤ container_count p g z) ⊎ ((container_count p g z ≡ 0) × (is_contained_class p (class_of g z) ≡ true))

-- whether an edge of a reference that contains leads from x to y
abbrev pub contains_in : Problem → Graph → ℕ → ℕ → Bool
contains_in p g x y = list_any (λ e. is_containing p e.reference && (e.from == x && e.to == y)) g.edges

-- node x lies on a cycle of such edges
pub record IsOnCycle (p : Problem) (g : Graph) (x : ℕ) : Type 0 where
  pub node : x < size_of g
  pub cycle : IsReachable (contains_in p g) (λ y. true) (size_of g) x x

-- how many nodes come from object o
abbrev pub nodes_from : Graph → ℕ → ℕ
nodes_from g o = count_below (size_of g) (λ x. origin_of g x == o)

-- a node of class c may come from an object of this name and kind: from `C::new` where its class is C, from a literal where
-- it is the literal's enum, and from another named object where it is no enum
abbrev pub MayHaveClass : List ClassDecl → ObjectName → ObjectKind → ℕ → Type 0
MayHaveClass classes (NewOf k) kind c = c ≡ k
MayHaveClass classes (Named name) (LiteralOf e) c = c ≡ e
MayHaveClass classes (Named name) Plain c = (class_at classes c).is_enum ≡ false
MayHaveClass classes (Named name) Atom c = (class_at classes c).is_enum ≡ false

-- a node comes from object o, and has a class that no node of it may have
pub record HasStranger (p : Problem) (g : Graph) (o : ℕ) : Type 0 where
  pub x : ℕ
  pub node : x < size_of g
  pub origin : origin_of g x ≡ o
  pub other : MayHaveClass p.classes (object_at p.objects o).name (object_at p.objects o).kind (class_of g x) → ⊥

-- object o has a number of nodes that it doesn't admit, or a node of a class that it may not have
pub record IsUnsatisfied (p : Problem) (g : Graph) (o : ℕ) : Type 0 where
  pub object : o < length p.objects
  pub fails : (contains (admitted p o) (nodes_from g o) ≡ false) ⊎ HasStranger p g o

-- what is asserted isn't satisfied: true and it fails, false and it holds, or error
abbrev pub Breaks : Truth → Type 0 → Type 0
Breaks True P = P → ⊥
Breaks False P = P
Breaks Unknown P = ⊥
Breaks Error P = Unit {0}

-- at a tuple of nodes what is asserted of a symbol isn't satisfied
pub record IsBroken (p : Problem) (g : Graph) (symbol : Symbol) (t : List ℕ) : Type 0 where
  pub declared : is_declared (length p.classes) (length p.references) (length p.predicates) symbol ≡ true
  pub arity : length t ≡ arity_of p.predicates symbol
  pub nodes : All (λ x. x < size_of g) t
  pub breaks : Breaks (asserted p symbol (map (origin_of g) t)) (Holds p g symbol t)

-- whether a scope counts node x: its class is below the scope's, and, where only new nodes count, it comes from some `C::new`
abbrev pub is_counted : Problem → Graph → Bound → ℕ → Bool
is_counted p g s x =
    has_scope_class p s.class (class_of g x) && counts_origin p s (origin_of g x)

-- the number of nodes that scope s counts is outside its range
pub record IsOffScope (p : Problem) (g : Graph) (s : ℕ) : Type 0 where
  pub scope : s < length p.scopes
  pub outside : contains (scope_at p.scopes s).range (count_below (size_of g) (is_counted p g (scope_at p.scopes s))) ≡ false

-- the violation is there
abbrev pub IsViolation : Problem → Graph → Violation → Type 0
IsViolation p g (Class x) = IsOfAbstractClass p g x
IsViolation p g (Edge r x y) = IsMisplaced p g r x y
IsViolation p g (Opposite r x y) = IsOneWay p g r x y
IsViolation p g (Degree r x) = IsOutOfRange p g r x
IsViolation p g (Containers z) = IsWronglyContained p g z
IsViolation p g (Cycle x) = IsOnCycle p g x
IsViolation p g (Object o) = IsUnsatisfied p g o
IsViolation p g (Asserted symbol t) = IsBroken p g symbol t
IsViolation p g (Scope s) = IsOffScope p g s

-- the sort key of a symbol at a tuple: classes, then references, then predicates
abbrev pub symbol_key : Symbol → List ℕ → List ℕ
symbol_key (OfClass c) t = 0 ∷ c ∷ t
symbol_key (Reference r) t = 1 ∷ r ∷ t
symbol_key (Predicate q) t = 2 ∷ q ∷ t
symbol_key Exists t = 3 ∷ t
symbol_key Equals t = 4 ∷ t

-- the sort key of a violation: its kind, and then its numbers
abbrev pub sort_key : Violation → List ℕ
sort_key (Class x) = 0 ∷ x ∷ []
sort_key (Edge r x y) = 1 ∷ r ∷ x ∷ y ∷ []
sort_key (Opposite r x y) = 2 ∷ r ∷ x ∷ y ∷ []
sort_key (Degree r x) = 3 ∷ r ∷ x ∷ []
sort_key (Containers z) = 4 ∷ z ∷ []
sort_key (Cycle x) = 5 ∷ x ∷ []
sort_key (Object o) = 6 ∷ o ∷ []
sort_key (Asserted symbol t) = 7 ∷ symbol_key symbol t
sort_key (Scope s) = 8 ∷ s ∷ []

-- violation v stands before violation w, by their sort keys, number by number
abbrev pub IsBefore : Violation → Violation → Type 0
IsBefore v w = slice_cmp nat_cmp (sort_key v) (sort_key w) ≡ Less

-- the kinds that speak of nodes and edges alone
abbrev pub is_of_shape : Violation → Bool
is_of_shape (Object o) = false
is_of_shape (Asserted symbol t) = false
is_of_shape (Scope s) = false
is_of_shape _ = true

-- no violation of these kinds is there
abbrev pub Shaped : Problem → Graph → Type 0
Shaped p g = (v : Violation) → is_of_shape v ≡ true → IsViolation p g v → ⊥

-- the graph satisfies the problem: it fits it, and no violation is there
pub record Sat (p : Problem) (g : Graph) : Type 0 where
  pub fits : Fits p g
  pub no_violation : (v : Violation) → IsViolation p g v → ⊥

-- the violation is there, and none before it is
pub record FirstViolation (p : Problem) (g : Graph) (v : Violation) : Type 0 where
  pub there : IsViolation p g v
  pub first : (w : Violation) → IsBefore w v → IsViolation p g w → ⊥

-- what is to be said of a graph that fits: that it satisfies, or its first violation
abbrev pub IsVerdict : Problem → Graph → Verdict → Type 0
IsVerdict p g Satisfied = Sat p g
IsVerdict p g (Violated v) = FirstViolation p g v
