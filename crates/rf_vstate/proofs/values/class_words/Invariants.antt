use Rattle.rf_vstate.proofs.Bits.{IsSpelling}
use Rattle.rf_vstate.proofs.values.class_words.Given as goal

abbrev pub invariant-loop-class : goal.invariant-loop-class
invariant-loop-class l = IsSpelling l.classes l.class l.words
