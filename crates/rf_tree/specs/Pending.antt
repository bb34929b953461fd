-- The states that are left to close after some lines, as they are found line by line.
use Rattle.std.specs.Prelude.{◌+◌, ℕ, not, ◌&&◌, if◌then◌else◌, Option, None, Some, option_and_then, List, [], ◌∷◌}
use Rattle.rf_problem.specs.declared.problem.Problem.{Problem}
use Rattle.rf_state.specs.State.{State}
use Rattle.rf_rules.specs.Decisions.{allowed, side}
use Rattle.rf_rules.specs.Rules.{after, fires, is_closing}
use Rattle.rf_tree.specs.declared.line.Line.{Line}
use Rattle.rf_tree.specs.declared.line.Line.TheVariants.{Close, Decide, Step}

-- what is left to close after a line, where this state comes first and these come after it; none where the line can't stand
abbrev pub after_line : Problem → State → List State → Line → Option (List State)
after_line p s rest (Step rule) = if not (is_closing rule) && fires p s rule then Some (after p s rule ∷ rest) else None
after_line p s rest (Decide d first) = if allowed p s d then Some (side p s d first ∷ side p s d (not first) ∷ rest) else None
after_line p s rest (Close rule) = if is_closing rule && fires p s rule then Some rest else None

-- what is left of these states after some lines; none where one of the lines can't stand, since it isn't allowed or no state is left
abbrev pub left_after : Problem → List Line → List State → Option (List State)
left_after p [] states = Some states
left_after p (line ∷ lines) [] = None
left_after p (line ∷ lines) (s ∷ rest) = option_and_then (left_after p lines) (after_line p s rest line)

-- how many of the lines are decisions
abbrev pub decisions_in : List Line → ℕ
decisions_in [] = 0
decisions_in (Step rule ∷ lines) = decisions_in lines
decisions_in (Decide d first ∷ lines) = 1 + decisions_in lines
decisions_in (Close rule ∷ lines) = decisions_in lines
