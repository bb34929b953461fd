-- What a search for a graph may end with.
use Rattle.std.specs.Prelude.{ℕ}
use Rattle.rf_problem.specs.declared.problem.Problem.{Problem}
use Rattle.rf_graph.specs.Violations.{Sat}
use Rattle.rf_tree.specs.Lines.{Open, Valid}
use Rattle.rf_tree.specs.declared.outcome.Outcome.{Outcome}
use Rattle.rf_tree.specs.declared.outcome.Outcome.TheVariants.{Found, Refuted, Unfinished}

-- a graph that was found satisfies the problem; lines that refute it are valid; unfinished lines are open, with exactly as many
-- decisions as the budget
abbrev pub IsRightOutcome : Problem → ℕ → Outcome → Type 0
IsRightOutcome p budget (Found g) = Sat p g
IsRightOutcome p budget (Refuted lines) = Valid p lines
IsRightOutcome p budget (Unfinished lines) = Open p lines budget
