-- How deep and how large a tree can be where a scope bounds all nodes.
use Rattle.std.specs.Prelude.{◌≡◌, ◌↔◌, ◌⊎◌, ℕ, ◌^◌, ◌≤◌, ◌<◌, Bool, true, None, Some, List, [], ◌∷◌, length}
use Rattle.rf_problem.specs.declared.problem.Problem.{Problem}
use Rattle.rf_problem.specs.declared.scope.Scope.{Scope}
use Rattle.rf_state.specs.State.{IsRoot, State}
use Rattle.rf_rules.specs.Decisions.{allowed, side}
use Rattle.rf_rules.specs.Effects.{after_effect}
use Rattle.rf_rules.specs.Words.{is_one}
use Rattle.rf_rules.specs.declared.decision.Decision.{Decision}
use Rattle.rf_rules.specs.declared.effect.Effect.{Effect}
use Rattle.rf_tree.specs.Lines.{lines_of}
use Rattle.rf_tree.specs.Pending.{decisions_in, left_after}
use Rattle.rf_tree.specs.Saturated.{IsSaturated}
use Rattle.rf_tree.specs.Trees.{FitsTree, HasHole, HasNoHole, IsCut, Tree, decisions_of}
use Rattle.rf_tree.specs.declared.line.Line.{Line}
use Rattle.rf_depth.specs.Depth.{IsEndOfSome, depth, depth_with, node_end}
use Rattle.rf_depth.specs.Late.{DecidesLate, LinesDecideLate}
use Rattle.rf_depth.specs.Measure.{IsKept, is_tight, left_of, lows, settled}
use Rattle.rf_depth.specs.Ways.{HasWay, longest, longest_in}

-- the bound on all nodes is the upper end of a scope that counts them, and no such scope has a lesser one
abbrev pub NodeEndIsLeast : Type 0
NodeEndIsLeast =
    (scopes : List Scope) (n : ℕ) → node_end scopes ≡ Some n
    → IsEndOfSome scopes n × ((m : ℕ) → IsEndOfSome scopes m → n ≤ m)

-- a problem has no depth exactly where no such scope has an upper end
abbrev pub DepthIsNone : Type 0
DepthIsNone = (p : Problem) → (depth p ≡ None) ↔ ((m : ℕ) → IsEndOfSome p.scopes m → ⊥)

-- the longest way is one of the tree, and no way is longer
abbrev pub LongestIsGreatest : Type 0
LongestIsGreatest = (t : Tree) → HasWay t (longest t) × ((n : ℕ) → HasWay t n → n ≤ longest t)

-- the lines of a tree that has none after its first hole tell it
abbrev pub LinesTellLongest : Type 0
LinesTellLongest = (t : Tree) → HasNoHole t ⊎ (HasHole t × IsCut t) → longest_in (lines_of t) ≡ longest t

-- a tree has fewer decisions than two to the power of its longest way
abbrev pub DecisionsAreFew : Type 0
DecisionsAreFew = (t : Tree) → decisions_of t < 2 ^ longest t

-- where no rule fires, the lower ends add up to at most the bound on all nodes
abbrev pub LowsAreWithin : Type 0
LowsAreWithin = (p : Problem) (s : State) (n : ℕ) → node_end p.scopes ≡ Some n → IsSaturated p s → lows s ≤ n

-- a tight object stays tight, and where no rule fires it is single
abbrev pub TightStays : Type 0
TightStays =
    (p : Problem) (s : State) (o : ℕ) → IsKept p s → o < length s.objects
    → ((e : Effect) → is_tight s o ≡ true → is_tight (after_effect s e) o ≡ true)
    × ((d : Decision) (first : Bool) → allowed p s d ≡ true → is_tight s o ≡ true → is_tight (side p s d first) o ≡ true)
    × (IsSaturated p s → (is_tight s o ≡ true) ↔ (is_one s o ≡ true))

-- what is settled stays so after an effect, there is more of it on each side of a decision, and less than the depth
-- where one is taken
abbrev pub SettledRises : Type 0
SettledRises =
    (p : Problem)
    → ((s : State) → IsRoot p s → IsKept p s)
    × ((s : State) (e : Effect) → IsKept p s → IsKept p (after_effect s e) × (settled p s ≤ settled p (after_effect s e)))
    × ((s : State) (d : Decision) (first : Bool) → IsKept p s → allowed p s d ≡ true
    → IsKept p (side p s d first) × (settled p s < settled p (side p s d first)))
    × ((s : State) (d : Decision) (n : ℕ) → node_end p.scopes ≡ Some n → IsKept p s → IsSaturated p s → allowed p s d ≡ true
    → settled p s < depth_with p n)

-- so what is left of the depth rises by no effect, and falls on each side of a decision that is taken where no rule
-- fires
abbrev pub LeftFalls : Type 0
LeftFalls =
    (p : Problem) (d : ℕ) → depth p ≡ Some d → (s : State) → IsKept p s
    → ((e : Effect) → left_of d p (after_effect s e) ≤ left_of d p s)
    × ((x : Decision) (first : Bool) → IsSaturated p s → allowed p s x ≡ true → left_of d p (side p s x first) < left_of d p s)

-- so no way of a tree whose decisions are taken where no rule fires holds more decisions than the depth
abbrev pub LongestIsWithin : Type 0
LongestIsWithin =
    (p : Problem) (root : State) (d : ℕ) (t : Tree) → IsRoot p root → depth p ≡ Some d → FitsTree p root t → DecidesLate p root t
    → (longest t ≤ d) × (decisions_of t < 2 ^ d)

-- the same by lines that can stand
abbrev pub LinesAreWithin : Type 0
LinesAreWithin =
    (p : Problem) (root : State) (d : ℕ) (lines : List Line) (left : List State) → IsRoot p root → depth p ≡ Some d
    → left_after p lines (root ∷ []) ≡ Some left → LinesDecideLate p lines (root ∷ [])
    → (longest_in lines ≤ d) × (decisions_in lines < 2 ^ d)
