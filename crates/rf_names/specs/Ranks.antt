-- Numbered vertices that can be ranked along the edges between them.
use Rattle.std.specs.Prelude.{◌≡◌, ℕ, ◌<◌, true, List}
use Rattle.rf_closure.specs.Along.{leads}

-- each vertex's rank is greater than those of the vertices to which it leads
abbrev pub FallsAlong : (ℕ → ℕ) → List (List ℕ) → Type 0
FallsAlong rank successors = (p q : ℕ) → leads successors p q ≡ true → rank q < rank p

-- ranks fall along each edge: no walk leads back to its start
abbrev pub HasRanks : List (List ℕ) → Type 0
HasRanks successors = (rank : ℕ → ℕ) × FallsAlong rank successors
