use Rattle.std.proofs.Common.{length}
use Rattle.rf_incr_closure.specs.Writes.{mark_at}
use Rattle.rf_incr_closure.proofs.RowLemmas.{IsWriting}
use Rattle.rf_incr_closure.proofs.rows.write_row.Given as goal

abbrev pub invariant-loop-block : goal.invariant-loop-block
invariant-loop-block l = IsWriting l.initial.store l.store l.tag (length l.marks) l.from (mark_at l.marks) l.block
