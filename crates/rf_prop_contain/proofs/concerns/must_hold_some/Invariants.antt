use Rattle.std.proofs.Common.{◌≡◌, false}
use Rattle.rf_finite.specs.Range.{some_below}
use Rattle.rf_rules.specs.Containment.{must_hold}
use Rattle.rf_prop_contain.proofs.concerns.must_hold_some.Given as goal

abbrev pub invariant-loop-other : goal.invariant-loop-other
invariant-loop-other g l = some_below l.other (must_hold (g.F.Facts.problem l.view) (g.F.Facts.state l.view) l.x) ≡ false
