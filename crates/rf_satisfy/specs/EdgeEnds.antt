-- The nodes at the other ends of a node's edges of a reference.
use Rattle.std.specs.Prelude.{◌≡◌, ◌==◌, ◌&&◌, ℕ, Bool, List, Vec}
use Rattle.std.specs.BTreeMap.{BTreeMap, get}
use Rattle.std.specs.List.{list_any}
use Rattle.std.specs.Ordering.{nat_cmp, ordering_then}
use Rattle.std.specs.declared.alloc.Global.{Global}
use Rattle.std.specs.declared.cmp.Ordering.{Ordering}
use Rattle.rf_graph.specs.declared.graph.Edge.{Edge}
use Rattle.rf_satisfy.specs.Edges.{is_edge}
use Rattle.rf_satisfy.specs.NodeLists.{items_of}

-- a reference, and the node at one end of its edges
abbrev pub End : Type 0
End = ℕ × ℕ

-- the order of ends: by reference, then by node
abbrev pub end_cmp : End → End → Ordering
end_cmp a b = ordering_then (nat_cmp a.0 b.0) (nat_cmp a.1 b.1)

-- whether two ends are the same
abbrev pub is_end : End → End → Bool
is_end a b = a.0 == b.0 && a.1 == b.1

-- the nodes that are listed for an end, none where it has no list
abbrev pub ends_at : BTreeMap End (Vec ℕ Global) → End → List ℕ
ends_at lists end = items_of (get end_cmp lists end)

-- whether a node is listed
abbrev pub is_listed : List ℕ → ℕ → Bool
is_listed nodes x = list_any (λ y. y == x) nodes

-- for each reference and node those nodes are listed that an edge leads to from there
abbrev pub AreFrom : BTreeMap End (Vec ℕ Global) → List Edge → Type 0
AreFrom lists edges = (r x y : ℕ) → is_listed (ends_at lists (r, x)) y ≡ list_any (is_edge r x y) edges

-- for each reference and node those nodes are listed that an edge leads from to there
abbrev pub AreInto : BTreeMap End (Vec ℕ Global) → List Edge → Type 0
AreInto lists edges = (r x y : ℕ) → is_listed (ends_at lists (r, y)) x ≡ list_any (is_edge r x y) edges
