-- Which node contains which, where each node has at most one container.
use Rattle.std.specs.Prelude.{ℕ, Bool, true, false, ◌==◌, ◌<◌, Option, None, Some, List, length, All, slice_index_or}
use Rattle.std.specs.Option.{ForSome}
use Rattle.rf_finite.specs.Walks.{walk_below}

-- whether there is a container, and it is node x
abbrev pub is_node : Option ℕ → ℕ → Bool
is_node None x = false
is_node (Some y) x = y == x

-- whether node x contains node z, by the container of each node
abbrev pub contains_by : List (Option ℕ) → ℕ → ℕ → Bool
contains_by containers x z = is_node (slice_index_or containers z None) x

-- each container is one of the nodes
abbrev pub AreInside : List (Option ℕ) → Type 0
AreInside containers = All (λ container. ForSome container (λ x. x < length containers)) containers

-- whether a walk from node to node that it contains leads from x back to x
abbrev pub is_cyclic : List (Option ℕ) → ℕ → Bool
is_cyclic containers x = walk_below (contains_by containers) (λ y. true) (length containers) x x
