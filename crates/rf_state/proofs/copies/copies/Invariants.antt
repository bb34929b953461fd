use Rattle.rf_state.proofs.CopyLemmas.{IsCopying}
use Rattle.rf_state.proofs.copies.copies.Given as goal

abbrev pub invariant-loop-key : goal.invariant-loop-key
invariant-loop-key l = IsCopying l.added l.copies l.fresh.of l.fresh.number l.key-iterator
