use Rattle.std.proofs.Common.{◌≡◌, None}
use Rattle.rf_finite.specs.Range.{first_below}
use Rattle.rf_finite.proofs.rule.first_found.Given as goal

abbrev pub invariant-loop-number : goal.invariant-loop-number
invariant-loop-number g l = first_below l.number (g.R.Rule.found l.rule) ≡ None
