use Rattle.std.proofs.Common.{◌≡◌, false, ◌&&◌}
use Rattle.rf_finite.specs.Range.{some_below}
use Rattle.rf_problem.specs.Contained.{is_containing}
use Rattle.rf_state.specs.State.{fact}
use Rattle.rf_pending.specs.Touching.{stands}
use Rattle.rf_prop_contain.proofs.concerns.does_hold.Given as goal

abbrev pub invariant-loop-reference : goal.invariant-loop-reference
invariant-loop-reference g l = some_below l.reference
    (λ q. is_containing (g.F.Facts.problem l.view) q
    && stands l.standing (fact (g.F.Facts.problem l.view) (g.F.Facts.state l.view) q l.x l.y)) ≡ false
