use Rattle.std.proofs.Common.{◌≡◌}
use Rattle.rf_trail.specs.Trail.{items, kept}
use Rattle.rf_vstate.specs.Meaning.{current}
use Rattle.rf_mirror.specs.Mirror.{AreObjects}
use Rattle.rf_mirror.proofs.mirrored.made.add_objects.Given as goal

abbrev pub invariant-loop-o : goal.invariant-loop-o
invariant-loop-o l = AreObjects (current l.inner) (items l.objects) × (kept l.objects ≡ kept l.initial.objects)
