use Rattle.std.proofs.Common.{◌≡◌, ◌+◌, ◌-◌}
use Rattle.rf_incr_closure.specs.Words.{word_of}
use Rattle.rf_incr_closure.specs.Writes.{mark_at}
use Rattle.rf_incr_closure.proofs.blocks.word_of.Given as goal

abbrev pub invariant-loop-done : goal.invariant-loop-done
invariant-loop-done l = l.word ≡ word_of (mark_at l.marks) (l.first + (64 - l.done)) l.done
