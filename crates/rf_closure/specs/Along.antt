-- Edges given by lists of the vertices to which each vertex leads.
use Rattle.std.specs.Prelude.{◌==◌, ℕ, Bool, List, [], slice_index_or}
use Rattle.std.specs.List.{list_any}

-- whether vertex a leads directly to vertex b, by lists of the vertices to which each vertex leads
abbrev pub leads : List (List ℕ) → ℕ → ℕ → Bool
leads successors a b = list_any (λ c. c == b) (slice_index_or successors a [])
