-- What holds of all walks.
use Rattle.std.specs.Prelude.{◌≡◌, ℕ, ◌<◌, ◌≤◌, Bool, true, List, ◌∷◌, ◌++◌, ◌↔◌, reverse, length}
use Rattle.rf_finite.specs.Lists.{HasNoRepeats}
use Rattle.rf_finite.specs.Walks.{IsWalk, IsReachable}

-- an inner vertex of a walk may be passed through, and splits it into two walks
abbrev pub WalksSplit : Type 0
WalksSplit =
    (edge : ℕ → ℕ → Bool) (through : ℕ → Bool) (n a c b : ℕ) (before after : List ℕ)
    → IsWalk edge through n a (before ++ c ∷ after) b
    → IsWalk edge through n a before c × (c < n) × (through c ≡ true) × IsWalk edge through n c after b

-- two walks that meet at a vertex that may be passed through are one walk
abbrev pub WalksJoin : Type 0
WalksJoin =
    (edge : ℕ → ℕ → Bool) (through : ℕ → Bool) (n a c b : ℕ) (before after : List ℕ)
    → IsWalk edge through n a before c → c < n → through c ≡ true → IsWalk edge through n c after b
    → IsWalk edge through n a (before ++ c ∷ after) b

-- a walk read backwards goes over the edges backwards
abbrev pub WalksReverse : Type 0
WalksReverse =
    (edge : ℕ → ℕ → Bool) (through : ℕ → Bool) (n a b : ℕ) (inner : List ℕ)
    → IsWalk edge through n a inner b → IsWalk (λ x y. edge y x) through n b (reverse inner) a

-- where there is a walk, there is one whose inner vertices differ, so of at most n inner vertices
abbrev pub WalksNeedNoRepeats : Type 0
WalksNeedNoRepeats =
    (edge : ℕ → ℕ → Bool) (through : ℕ → Bool) (n a b : ℕ)
    → IsReachable edge through n a b
    ↔ ((inner : List ℕ) × IsWalk edge through n a inner b × HasNoRepeats inner × (length inner ≤ n))

-- more edges and more vertices that may be passed through keep each walk between vertices below n
abbrev pub WalksAreMonotone : Type 0
WalksAreMonotone =
    (edge edge' : ℕ → ℕ → Bool) (through through' : ℕ → Bool) (n a b : ℕ) (inner : List ℕ)
    → ((x y : ℕ) → x < n → y < n → edge x y ≡ true → edge' x y ≡ true)
    → ((x : ℕ) → x < n → through x ≡ true → through' x ≡ true)
    → a < n → b < n → IsWalk edge through n a inner b → IsWalk edge' through' n a inner b
