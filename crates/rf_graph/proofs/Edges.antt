-- Edges, computed and in words.
use Rattle.std.proofs.Common.{◌≡◌, ℕ, Bool, true, ◌==◌, ◌&&◌, Contains, refl, subst}
use Rattle.std.proofs.lemmas.Bool.{and_parts, and_from, eqb-true, eq-eqb}
use Rattle.rf_finite.proofs.Lists.{one-from_list_any, list_any-from_one}
use Rattle.rf_graph.specs.Graph.{HasEdge, has_edge}
use Rattle.rf_graph.specs.declared.graph.Edge.{Edge}
use Rattle.rf_graph.specs.declared.graph.Graph.{Graph}

abbrev is_edge : ℕ → ℕ → ℕ → Edge → Bool
is_edge r x y e = e.reference == r && (e.from == x && e.to == y)

is_edge-same : (r x y : ℕ) (e : Edge) → is_edge r x y e ≡ true → e ≡ record { reference = r; from = x; to = y }
is_edge-same r x y e h =
    let first = and_parts (e.reference == r) (e.from == x && e.to == y) h in
    let rest = and_parts (e.from == x) (e.to == y) first.1 in
    let at_r = eqb-true e.reference r first.0 in
    let at_x = eqb-true e.from x rest.0 in
    let at_y = eqb-true e.to y rest.1 in
    λ i. record { reference = at_r i; from = at_x i; to = at_y i }

-- an edge leads from node to node where the test says so, and the test says so where one does
pub HasEdge-from_has_edge : (g : Graph) (r x y : ℕ) → has_edge g r x y ≡ true → HasEdge g r x y
HasEdge-from_has_edge g r x y h =
    let one = one-from_list_any (is_edge r x y) g.edges h in
    subst (λ (e : Edge). Contains g.edges e) (is_edge-same r x y one.0 one.2) one.1

pub has_edge-from_HasEdge : (g : Graph) (r x y : ℕ) → HasEdge g r x y → has_edge g r x y ≡ true
has_edge-from_HasEdge g r x y h =
    list_any-from_one (is_edge r x y) g.edges (record { reference = r; from = x; to = y }) h
    (and_from (r == r) (x == x && y == y) (eq-eqb r r refl) (and_from (x == x) (y == y) (eq-eqb x x refl) (eq-eqb y y refl)))
