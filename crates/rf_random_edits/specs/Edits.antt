-- What an edit made.
use Rattle.std.specs.Prelude.{◌≡◌, Option, None, Some}
use Rattle.rf_problem.specs.declared.problem.Problem.{Problem}
use Rattle.rf_state.specs.State.{State}
use Rattle.rf_pending.specs.Changes.{FitsChange, IsChange}
use Rattle.rf_pending.specs.declared.change.Change.{Change}

-- t is s where nothing was changed, and else s after that change
abbrev pub IsMade : Problem → Option Change → State → State → Type 0
IsMade p None s t = t ≡ s
IsMade p (Some change) s t = IsChange change s t × FitsChange p t change
