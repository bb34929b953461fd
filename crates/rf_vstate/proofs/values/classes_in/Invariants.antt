use Rattle.rf_vstate.proofs.Bits.{AreOfWords}
use Rattle.rf_vstate.proofs.values.classes_in.Given as goal

abbrev pub invariant-loop-place : goal.invariant-loop-place
invariant-loop-place l = AreOfWords l.words l.place l.classes
