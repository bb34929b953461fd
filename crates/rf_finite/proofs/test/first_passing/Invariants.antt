use Rattle.std.proofs.Common.{◌≡◌, None}
use Rattle.std.specs.Bool.{then_some}
use Rattle.rf_finite.specs.Range.{first_below}
use Rattle.rf_finite.proofs.test.first_passing.Given as goal

abbrev pub invariant-loop-number : goal.invariant-loop-number
invariant-loop-number g l = first_below l.number (λ k. then_some (g.T.Test.passing l.test k) k) ≡ None
