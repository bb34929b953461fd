-- Trees that close states by rules and decisions, and where one fits a state.
use Rattle.std.specs.Prelude.{◌≡◌, ◌⊎◌, ◌+◌, ℕ, Bool, true, false, not, List, [], ◌∷◌, ◌++◌}
use Rattle.rf_problem.specs.declared.problem.Problem.{Problem}
use Rattle.rf_state.specs.State.{State}
use Rattle.rf_rules.specs.Decisions.{allowed, side}
use Rattle.rf_rules.specs.Rules.{after, fires, is_closing}
use Rattle.rf_rules.specs.declared.decision.Decision.{Decision}
use Rattle.rf_rules.specs.declared.rule.Rule.{Rule}

-- what is done to a state: nothing yet, a closing, a rule and what is done after it, or a decision and what is done to its sides;
-- of a decision stands whether its first side leads, and then the leading side's tree before the other's
pub data Tree : Type 0 where
  hole : Tree
  closing : Rule → Tree
  effect : Rule → Tree → Tree
  choice : Decision → Bool → Tree → Tree → Tree

-- a hole fits each state; a closing fits where it is one and fires; a rule that is none fits where it fires and its subtree fits
-- the state after it; a decision where it is allowed and each subtree fits its side
abbrev pub FitsTree : Problem → State → Tree → Type 0
FitsTree p s hole = Unit {0}
FitsTree p s (closing rule) = (is_closing rule ≡ true) × (fires p s rule ≡ true)
FitsTree p s (effect rule t) = (is_closing rule ≡ false) × (fires p s rule ≡ true) × FitsTree p (after p s rule) t
FitsTree p s (choice d first t u) = (allowed p s d ≡ true) × FitsTree p (side p s d first) t × FitsTree p (side p s d (not first)) u

-- each state is closed
abbrev pub HasNoHole : Tree → Type 0
HasNoHole hole = ⊥
HasNoHole (closing rule) = Unit {0}
HasNoHole (effect rule t) = HasNoHole t
HasNoHole (choice d first t u) = HasNoHole t × HasNoHole u

-- some state isn't
abbrev pub HasHole : Tree → Type 0
HasHole hole = Unit {0}
HasHole (closing rule) = ⊥
HasHole (effect rule t) = HasHole t
HasHole (choice d first t u) = HasHole t ⊎ HasHole u

-- nothing is done after the first hole: where the leading side of a decision has one, the other side is a hole
abbrev pub IsCut : Tree → Type 0
IsCut hole = Unit {0}
IsCut (closing rule) = Unit {0}
IsCut (effect rule t) = IsCut t
IsCut (choice d first t u) = (HasNoHole t × IsCut u) ⊎ (HasHole t × IsCut t × (u ≡ hole))

-- the states at the holes of a tree of this state, the first one first
abbrev pub holes_of : Problem → State → Tree → List State
holes_of p s hole = s ∷ []
holes_of p s (closing rule) = []
holes_of p s (effect rule t) = holes_of p (after p s rule) t
holes_of p s (choice d first t u) = holes_of p (side p s d first) t ++ holes_of p (side p s d (not first)) u

-- how many decisions it has
abbrev pub decisions_of : Tree → ℕ
decisions_of hole = 0
decisions_of (closing rule) = 0
decisions_of (effect rule t) = decisions_of t
decisions_of (choice d first t u) = 1 + (decisions_of t + decisions_of u)
