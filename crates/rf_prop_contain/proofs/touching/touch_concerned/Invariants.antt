use Rattle.rf_pending.specs.Touching.{AreTouched}
use Rattle.rf_prop_contain.specs.Touching.{is_concerned}
use Rattle.rf_prop_contain.proofs.touching.touch_concerned.Given as goal

abbrev pub invariant-loop-b : goal.invariant-loop-b
invariant-loop-b g l = AreTouched (is_concerned (g.F.Facts.problem l.view) (g.F.Facts.state l.view) l.change l.b) l.fn.marks l.marks
