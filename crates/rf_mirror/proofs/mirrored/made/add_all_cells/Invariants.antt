use Rattle.std.proofs.Common.{◌≡◌}
use Rattle.rf_trail.specs.Trail.{items, kept}
use Rattle.rf_vstate.specs.Meaning.{current}
use Rattle.rf_mirror.specs.Mirror.{AreTold}
use Rattle.rf_mirror.proofs.mirrored.made.add_all_cells.Given as goal

abbrev pub invariant-loop-o : goal.invariant-loop-o
invariant-loop-o l =
    AreTold l.inner.problem.now (current l.inner) (items l.cells) × (kept l.cells ≡ kept l.initial.cells)
