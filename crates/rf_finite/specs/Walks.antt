-- Walks over the edges between numbered vertices.
use Rattle.std.specs.Prelude.{◌≡◌, ℕ, zero, suc, ◌<◌, Bool, true, ◌&&◌, ◌||◌, List, [], ◌∷◌, ◌↔◌}

-- a walk from a over these inner vertices, in this order, to b: each inner vertex is below n and may be
-- passed through, and an edge leads from each vertex to the next
abbrev pub IsWalk : (ℕ → ℕ → Bool) → (ℕ → Bool) → ℕ → ℕ → List ℕ → ℕ → Type 0
IsWalk edge through n a [] b = edge a b ≡ true
IsWalk edge through n a (c ∷ cs) b = (edge a c ≡ true) × (c < n) × (through c ≡ true) × IsWalk edge through n c cs b

-- a walk of one or more edges leads from a to b
abbrev pub IsReachable : (ℕ → ℕ → Bool) → (ℕ → Bool) → ℕ → ℕ → ℕ → Type 0
IsReachable edge through n a b = (inner : List ℕ) × IsWalk edge through n a inner b

-- no walk leads from a vertex below n back to it
abbrev pub HasNoCycle : (ℕ → ℕ → Bool) → ℕ → Type 0
HasNoCycle edge n = (x : ℕ) → x < n → IsReachable edge (λ y. true) n x x → ⊥

-- whether a walk leads from a to b, by recursion on the bound of its inner vertices: a walk through the
-- greatest vertex passes it between two walks through smaller ones
abbrev pub walk_below : (ℕ → ℕ → Bool) → (ℕ → Bool) → ℕ → ℕ → ℕ → Bool
walk_below edge through zero a b = edge a b
walk_below edge through (suc n) a b =
    walk_below edge through n a b
    || (through n && (walk_below edge through n a n && walk_below edge through n n b))

-- the recursion finds a walk exactly where there is one as a list of vertices
abbrev pub WalkBelowFindsWalks : Type 0
WalkBelowFindsWalks =
    (edge : ℕ → ℕ → Bool) (through : ℕ → Bool) (n a b : ℕ)
    → (walk_below edge through n a b ≡ true) ↔ IsReachable edge through n a b

-- there is no cycle exactly where a rank falls along each edge
abbrev pub NoCycleIsRank : Type 0
NoCycleIsRank =
    (edge : ℕ → ℕ → Bool) (n : ℕ)
    → HasNoCycle edge n
    ↔ ((rank : ℕ → ℕ) × ((x y : ℕ) → x < n → y < n → edge x y ≡ true → rank y < rank x))
