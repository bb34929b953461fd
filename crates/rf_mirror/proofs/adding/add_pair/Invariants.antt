use Rattle.std.proofs.Common.{◌≡◌}
use Rattle.rf_trail.specs.Trail.{items, kept}
use Rattle.rf_mirror.specs.Sources.{StayTold}
use Rattle.rf_mirror.proofs.adding.add_pair.Given as goal

abbrev pub invariant-loop-r : goal.invariant-loop-r
invariant-loop-r l =
    StayTold l.problem l.source l.a l.b (items l.initial.cells) (items l.cells) × (kept l.cells ≡ kept l.initial.cells)
