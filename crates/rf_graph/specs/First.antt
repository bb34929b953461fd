-- The first violation, computed: kind by kind, the least by its sort key.
use Rattle.std.specs.Prelude.{ℕ, Bool, true, false, ◌==◌, ◌&&◌, ◌||◌, not, nat_le, Option, None, Some, [], map, length}
use Rattle.std.specs.Bool.{then_some}
use Rattle.std.specs.Option.{option_or}
use Rattle.rf_finite.specs.Range.{count_below, first_below, some_below}
use Rattle.rf_finite.specs.Tuples.{first_tuple}
use Rattle.rf_finite.specs.Walks.{walk_below}
use Rattle.rf_values.specs.Count.{contains}
use Rattle.rf_values.specs.declared.truth.Truth.{Truth}
use Rattle.rf_values.specs.declared.truth.Truth.TheVariants.{True, False, Unknown, Error}
use Rattle.rf_problem.specs.Asserted.{admitted, asserted}
use Rattle.rf_problem.specs.Parts.{arity_of, object_at, reference_at, scope_at}
use Rattle.rf_problem.specs.Classes.{class_at, is_below, may_have_class}
use Rattle.rf_problem.specs.Contained.{is_contained_class}
use Rattle.rf_problem.specs.declared.problem.Problem.{Problem}
use Rattle.rf_problem.specs.declared.symbol.Symbol.{Symbol}
use Rattle.rf_problem.specs.declared.symbol.Symbol.TheVariants.{Class as OfClass, Reference, Predicate}
use Rattle.rf_graph.specs.Evaluate.{holds}
use Rattle.rf_graph.specs.Graph.{class_of, has_edge, origin_of, size_of}
use Rattle.rf_graph.specs.Violations.{container_count, degree_of, contains_in, is_counted, nodes_from}
use Rattle.rf_graph.specs.declared.graph.Graph.{Graph}
use Rattle.rf_graph.specs.declared.verdict.Violation.{Violation}
use Rattle.rf_graph.specs.declared.verdict.Violation.TheVariants.{Class, Edge, Opposite, Degree, Containers, Cycle, Object, Asserted, Scope}

-- this violation, where it is there
abbrev pub when : Bool → Violation → Option Violation
when b v = then_some b v

abbrev pub first_class : Problem → Graph → Option Violation
first_class p g = first_below (size_of g) (λ x. when (class_at p.classes (class_of g x)).is_abstract (Class x))

-- the first of so many references and two nodes where the test finds a violation
abbrev pub first_edge_of : Problem → Graph → (ℕ → ℕ → ℕ → Option Violation) → Option Violation
first_edge_of p g test =
    first_below (length p.references) (λ r. first_below (size_of g) (λ x. first_below (size_of g) (λ y. test r x y)))

-- whether the ends of an edge are of the classes that its reference leads between
abbrev pub fits_ends : Problem → Graph → ℕ → ℕ → ℕ → Bool
fits_ends p g r x y =
    is_below p.classes (class_of g x) (reference_at p.references r).source
    && is_below p.classes (class_of g y) (reference_at p.references r).target

abbrev pub first_edge : Problem → Graph → Option Violation
first_edge p g = first_edge_of p g (λ r x y. when (has_edge g r x y && not (fits_ends p g r x y)) (Edge r x y))

-- whether there is no opposite, or an edge of it leads from y to x
abbrev pub has_mirror : Graph → Option ℕ → ℕ → ℕ → Bool
has_mirror g None x y = true
has_mirror g (Some s) x y = has_edge g s y x

abbrev pub first_opposite : Problem → Graph → Option Violation
first_opposite p g = first_edge_of p g (λ r x y.
    when (has_edge g r x y && not (has_mirror g (reference_at p.references r).opposite x y)) (Opposite r x y))

-- whether node x has as many edges of reference r as it has to
abbrev pub is_in_range : Problem → Graph → ℕ → ℕ → Bool
is_in_range p g r x =
    not (is_below p.classes (class_of g x) (reference_at p.references r).source)
    || contains (reference_at p.references r).range (degree_of g r x)

abbrev pub first_degree : Problem → Graph → Option Violation
first_degree p g =
    first_below (length p.references) (λ r. first_below (size_of g) (λ x. when (not (is_in_range p g r x)) (Degree r x)))

-- whether node z is contained more than once, or not at all though it has to be
abbrev pub is_wrongly_contained : Problem → Graph → ℕ → Bool
is_wrongly_contained p g z =
    nat_le 2 (container_count p g z) || (container_count p g z == 0 && is_contained_class p (class_of g z))

abbrev pub first_containers : Problem → Graph → Option Violation
first_containers p g = first_below (size_of g) (λ z. when (is_wrongly_contained p g z) (Containers z))

abbrev pub first_cycle : Problem → Graph → Option Violation
first_cycle p g = first_below (size_of g) (λ x. when (walk_below (contains_in p g) (λ y. true) (size_of g) x x) (Cycle x))

-- whether node x may come from object o by its class
abbrev pub may_come_from : Problem → Graph → ℕ → ℕ → Bool
may_come_from p g o x = may_have_class p.classes (object_at p.objects o).name (object_at p.objects o).kind (class_of g x)

abbrev pub has_stranger : Problem → Graph → ℕ → Bool
has_stranger p g o = some_below (size_of g) (λ x. origin_of g x == o && not (may_come_from p g o x))

abbrev pub first_object : Problem → Graph → Option Violation
first_object p g = first_below (length p.objects) (λ o.
    when (not (contains (admitted p o) (nodes_from g o)) || has_stranger p g o) (Object o))

-- whether what is asserted isn't satisfied by what holds
abbrev pub breaks : Truth → Bool → Bool
breaks True b = not b
breaks False b = b
breaks Unknown b = false
breaks Error b = true

-- the first tuple of nodes at which what is asserted of a symbol isn't satisfied
abbrev pub first_broken : Problem → Graph → Symbol → Option Violation
first_broken p g symbol =
    first_tuple (size_of g) (arity_of p.predicates symbol) [] (λ t.
    when (breaks (asserted p symbol (map (origin_of g) t)) (holds p g symbol t)) (Asserted symbol t))

abbrev pub first_asserted : Problem → Graph → Option Violation
first_asserted p g =
    option_or (first_below (length p.classes) (λ c. first_broken p g (OfClass c)))
    (option_or (first_below (length p.references) (λ r. first_broken p g (Reference r)))
    (first_below (length p.predicates) (λ q. first_broken p g (Predicate q))))

abbrev pub first_scope : Problem → Graph → Option Violation
first_scope p g = first_below (length p.scopes) (λ s.
    when (not (contains (scope_at p.scopes s).range (count_below (size_of g) (is_counted p g (scope_at p.scopes s))))) (Scope s))

-- of all violations the first
abbrev pub first_violation : Problem → Graph → Option Violation
first_violation p g =
    option_or (first_class p g)
    (option_or (first_edge p g)
    (option_or (first_opposite p g)
    (option_or (first_degree p g)
    (option_or (first_containers p g)
    (option_or (first_cycle p g)
    (option_or (first_object p g)
    (option_or (first_asserted p g)
    (first_scope p g))))))))
