-- How many decisions the ways of a tree hold, and those of its lines.
use Rattle.std.specs.Prelude.{◌≡◌, ◌⊎◌, ℕ, zero, suc, ◌+◌, max, List, [], ◌∷◌}
use Rattle.rf_tree.specs.Trees.{Tree, choice, closing, effect, hole}
use Rattle.rf_tree.specs.declared.line.Line.{Line}
use Rattle.rf_tree.specs.declared.line.Line.TheVariants.{Close, Decide, Step}

-- the greatest number of decisions on a way from the root of a tree to a place of it, a closing or a hole included
abbrev pub longest : Tree → ℕ
longest hole = 0
longest (closing rule) = 0
longest (effect rule t) = longest t
longest (choice d first t u) = 1 + max (longest t) (longest u)

-- a way from the root of a tree to some place of it holds n decisions
abbrev pub HasWay : Tree → ℕ → Type 0
HasWay hole n = n ≡ 0
HasWay (closing rule) n = n ≡ 0
HasWay (effect rule t) n = (n ≡ 0) ⊎ HasWay t n
HasWay (choice d first t u) zero = Unit {0}
HasWay (choice d first t u) (suc n) = HasWay t n ⊎ HasWay u n

-- the same by lines, where so many decisions led to each place that is left: the greatest number that led to a
-- place of the lines
abbrev pub longest_from : List ℕ → List Line → ℕ
longest_from [] lines = 0
longest_from (k ∷ ks) [] = k
longest_from (k ∷ ks) (Step rule ∷ lines) = longest_from (k ∷ ks) lines
longest_from (k ∷ ks) (Close rule ∷ lines) = max k (longest_from ks lines)
longest_from (k ∷ ks) (Decide d first ∷ lines) = longest_from (suc k ∷ suc k ∷ ks) lines

-- the greatest number of decisions on a way of the tree of these lines
abbrev pub longest_in : List Line → ℕ
longest_in lines = longest_from (0 ∷ []) lines
