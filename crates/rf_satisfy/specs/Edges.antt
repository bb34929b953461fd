-- The edges of a graph as the keys of a set, in the order of references and then of their ends.
use Rattle.std.specs.Prelude.{◌≡◌, ◌<◌, ◌==◌, ◌&&◌, not, ℕ, Bool, Option, List, length, count_by, slice_index}
use Rattle.std.specs.List.{list_any}
use Rattle.std.specs.BTreeSet.{BTreeSet, contains}
use Rattle.std.specs.Ordering.{nat_cmp, ordering_then}
use Rattle.std.specs.declared.cmp.Ordering.{Ordering}
use Rattle.rf_finite.specs.Range.{first_below}
use Rattle.rf_problem.specs.declared.problem.Problem.{Problem}
use Rattle.rf_graph.specs.First.{is_in_range, when}
use Rattle.rf_graph.specs.Graph.{size_of}
use Rattle.rf_graph.specs.declared.graph.Edge.{Edge}
use Rattle.rf_graph.specs.declared.graph.Graph.{Graph}
use Rattle.rf_graph.specs.declared.verdict.Violation.{Violation}
use Rattle.rf_graph.specs.declared.verdict.Violation.TheVariants.{Degree}

-- a reference and the two ends of an edge
abbrev pub Key : Type 0
Key = ℕ × ℕ × ℕ

-- the order of keys: by reference, then by the node that the edge leads from, then by the other
abbrev pub key_cmp : Key → Key → Ordering
key_cmp a b = ordering_then (ordering_then (nat_cmp a.0 b.0) (nat_cmp a.1 b.1)) (nat_cmp a.2 b.2)

-- whether an edge is this one
abbrev pub is_edge : ℕ → ℕ → ℕ → Edge → Bool
is_edge r x y e = e.reference == r && (e.from == x && e.to == y)

-- the keys are those of the edges
abbrev pub AreKeysOf : BTreeSet Key → List Edge → Type 0
AreKeysOf keys edges = (r x y : ℕ) → contains key_cmp keys (r, x, y) ≡ list_any (is_edge r x y) edges

-- whether an edge is of reference r and leads from node x
abbrev pub is_from : ℕ → ℕ → Edge → Bool
is_from r x e = e.reference == r && e.from == x

-- whether an edge is of reference r and leads to node y
abbrev pub is_into : ℕ → ℕ → Edge → Bool
is_into r y e = e.reference == r && e.to == y

-- at each node stands how many of the edges are of reference r and lead from it
abbrev pub CountsFrom : ℕ → List Edge → List ℕ → Type 0
CountsFrom r edges degrees = (x : ℕ) → x < length degrees → slice_index degrees x ≡ count_by (is_from r x) edges

-- the first node that hasn't as many edges of reference r as it has to
abbrev pub first_degree_of : Problem → Graph → ℕ → Option Violation
first_degree_of p g r = first_below (size_of g) (λ x. when (not (is_in_range p g r x)) (Degree r x))
