use Rattle.std.proofs.Common.{◌≡◌}
use Rattle.rf_trail.specs.Trail.{items, kept}
use Rattle.rf_mirror.specs.Sources.{StayTold}
use Rattle.rf_mirror.proofs.adding.add_back.Given as goal

abbrev pub invariant-loop-a : goal.invariant-loop-a
invariant-loop-a l =
    StayTold l.problem l.source l.o l.o (items l.initial.cells) (items l.cells) × (kept l.cells ≡ kept l.initial.cells)
