use Rattle.rf_vstate.proofs.Bits.{IsGathering}
use Rattle.rf_vstate.proofs.values.with_word.Given as goal

abbrev pub invariant-loop-rest : goal.invariant-loop-rest
invariant-loop-rest l = IsGathering l.fn.classes l.place l.fn.word l.all l.bit l.rest

abbrev pub decreases-loop-rest : goal.decreases-loop-rest
decreases-loop-rest l = l.rest
