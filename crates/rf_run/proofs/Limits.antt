-- The numbers of a command that words say are within their limits.
use Rattle.std.proofs.Common.{◌≤◌, ℕ, List, [], ◌∷◌, arith}
use Rattle.rf_bounds.specs.declared.TheConstants.{MOST_DECISIONS}
use Rattle.rf_words.specs.Meaning.{HasNumber, IsCommand}
use Rattle.rf_words.specs.declared.request.TheConstants.{DEFAULT_BUDGET}
use Rattle.rf_words.specs.declared.request.Command.{Command}
use Rattle.rf_words.specs.declared.request.Command.TheVariants.{Generate, Check, Verify, Evaluate, Session, Grow}
use Rattle.rf_run.specs.Commands.{FitsLimits}

-- what an option says, or its default, is within the limits
within_limits : (values : List (List ℕ)) (n : ℕ) → HasNumber values 1 MOST_DECISIONS DEFAULT_BUDGET n → (1 ≤ n) × (n ≤ MOST_DECISIONS)
within_limits [] n is = rw is (omega arith, omega arith)
within_limits (value ∷ []) n is = (is.1, is.2)
within_limits (value ∷ other ∷ values) n is = absurd is

pub fits_limits : (words : List (List ℕ)) (c : Command) → IsCommand words c → FitsLimits c
fits_limits [] c is = absurd is
fits_limits (name ∷ words) (Generate file seed budget json) is = within_limits _ budget is.1.2.1
fits_limits (name ∷ words) (Check file graph) is = tt
fits_limits (name ∷ words) (Verify file tree) is = tt
fits_limits (name ∷ words) (Evaluate file) is = tt
fits_limits (name ∷ words) (Session file script) is = tt
fits_limits (name ∷ words) (Grow n) is = is.1.2
