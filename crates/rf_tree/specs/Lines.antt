-- The lines of a tree, and which lines are those of a tree of a problem.
use Rattle.std.specs.Prelude.{◌≡◌, ◌⊎◌, ◌++◌, ℕ, List, [], ◌∷◌}
use Rattle.rf_problem.specs.declared.problem.Problem.{Problem}
use Rattle.rf_state.specs.State.{IsRoot, State}
use Rattle.rf_tree.specs.Trees.{FitsTree, HasHole, HasNoHole, IsCut, Tree, choice, closing, decisions_of, effect, hole}
use Rattle.rf_tree.specs.declared.line.Line.{Line}
use Rattle.rf_tree.specs.declared.line.Line.TheVariants.{Close, Decide, Step}

-- each rule and decision before what is done after it, the leading side before the other; a hole has no line
abbrev pub lines_of : Tree → List Line
lines_of hole = []
lines_of (closing rule) = Close rule ∷ []
lines_of (effect rule t) = Step rule ∷ lines_of t
lines_of (choice d first t u) = Decide d first ∷ (lines_of t ++ lines_of u)

-- the lines are those of a tree without a hole that fits the root
pub record Valid (p : Problem) (lines : List Line) : Type 0 where
  pub root : State
  pub is_root : IsRoot p root
  pub tree : Tree
  pub fits : FitsTree p root tree
  pub whole : HasNoHole tree
  pub read : lines ≡ lines_of tree

-- the lines are those of a tree that fits the root, has a hole and no line after the first one, and has so many decisions
pub record Open (p : Problem) (lines : List Line) (n : ℕ) : Type 0 where
  pub root : State
  pub is_root : IsRoot p root
  pub tree : Tree
  pub fits : FitsTree p root tree
  pub unfinished : HasHole tree
  pub cut : IsCut tree
  pub read : lines ≡ lines_of tree
  pub decisions : n ≡ decisions_of tree

-- the lines are valid, or more lines may come
abbrev pub CanStand : Problem → List Line → Type 0
CanStand p lines = Valid p lines ⊎ ((n : ℕ) × Open p lines n)
