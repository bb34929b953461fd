use Rattle.rf_prop_broken.proofs.TouchLemmas.{AreTouchedBelow}
use Rattle.rf_prop_broken.proofs.touching.touch_found.Given as goal

abbrev pub invariant-loop-q : goal.invariant-loop-q
invariant-loop-q l = AreTouchedBelow l.found l.q l.fn.marks l.marks
