use Rattle.std.proofs.Common.{◌≡◌}
use Rattle.rf_trail.specs.Trail.{items, kept}
use Rattle.rf_mirror.specs.Sources.{StayTold}
use Rattle.rf_mirror.proofs.adding.add_onward.Given as goal

abbrev pub invariant-loop-b : goal.invariant-loop-b
invariant-loop-b l =
    StayTold l.problem l.source l.o l.o (items l.initial.cells) (items l.cells) × (kept l.cells ≡ kept l.initial.cells)
