-- Trees and lines each of whose decisions is taken at a state in which no rule fires.
use Rattle.std.specs.Prelude.{not, List, [], ◌∷◌}
use Rattle.rf_problem.specs.declared.problem.Problem.{Problem}
use Rattle.rf_state.specs.State.{State}
use Rattle.rf_rules.specs.Decisions.{side}
use Rattle.rf_rules.specs.Rules.{after}
use Rattle.rf_tree.specs.Saturated.{IsSaturated}
use Rattle.rf_tree.specs.Trees.{Tree, choice, closing, effect, hole}
use Rattle.rf_tree.specs.declared.line.Line.{Line}
use Rattle.rf_tree.specs.declared.line.Line.TheVariants.{Close, Decide, Step}

-- each decision of a tree of this state is taken where no rule fires
abbrev pub DecidesLate : Problem → State → Tree → Type 0
DecidesLate p s hole = Unit {0}
DecidesLate p s (closing rule) = Unit {0}
DecidesLate p s (effect rule t) = DecidesLate p (after p s rule) t
DecidesLate p s (choice d first t u) = IsSaturated p s × DecidesLate p (side p s d first) t × DecidesLate p (side p s d (not first)) u

-- each decision of these lines is, of which the first stands in the first of these states
abbrev pub LinesDecideLate : Problem → List Line → List State → Type 0
LinesDecideLate p [] states = Unit {0}
LinesDecideLate p (line ∷ lines) [] = Unit {0}
LinesDecideLate p (Step rule ∷ lines) (s ∷ rest) = LinesDecideLate p lines (after p s rule ∷ rest)
LinesDecideLate p (Close rule ∷ lines) (s ∷ rest) = LinesDecideLate p lines rest
LinesDecideLate p (Decide d first ∷ lines) (s ∷ rest) =
    IsSaturated p s × LinesDecideLate p lines (side p s d first ∷ side p s d (not first) ∷ rest)
