use Rattle.std.proofs.Common.{length}
use Rattle.rf_pending.specs.Touching.{AreEdgesTouched}
use Rattle.rf_prop_contain.specs.Touching.{is_sole_of}
use Rattle.rf_prop_contain.proofs.touching.touch_soles.Given as goal

abbrev pub invariant-loop-b : goal.invariant-loop-b
invariant-loop-b g l = AreEdgesTouched (length (g.F.Facts.problem l.view).references) (length (g.F.Facts.state l.view).objects)
    (is_sole_of (g.F.Facts.problem l.view) (g.F.Facts.state l.view) l.change l.b) l.fn.marks l.marks
