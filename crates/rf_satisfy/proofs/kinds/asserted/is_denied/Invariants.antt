use Rattle.std.proofs.Common.{◌≡◌, ◌<◌, ℕ, false, get_or}
use Rattle.rf_satisfy.specs.Suspects.{assertion_at, denies}
use Rattle.rf_satisfy.proofs.kinds.asserted.is_denied.Given as goal

abbrev pub invariant-loop-number : goal.invariant-loop-number
invariant-loop-number l = (k : ℕ) → k < l.number-index → denies (assertion_at l.index.problem l.fn.symbol (get_or l.numbers k 0)).value ≡ false
