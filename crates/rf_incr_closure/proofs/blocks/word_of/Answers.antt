use Rattle.std.proofs.Common.{◌+◌, ◌-◌, arith}
use Rattle.rf_incr_closure.specs.Writes.{mark_at}
use Rattle.rf_incr_closure.proofs.Bits.{bit-lt, word_of-small}
use Rattle.rf_incr_closure.proofs.blocks.word_of.Goals as goal

pub overflow_mul-word : goal.overflow_mul-word
overflow_mul-word c =
    let small = word_of-small (mark_at c.args.marks.now) c.args.first c.loop-done.done c.loop-done.word c.loop-done-test.true c.loop-done.invariant in
    omega (arith, small)

pub overflow_add-word : goal.overflow_add-word
overflow_add-word c =
    let small = word_of-small (mark_at c.args.marks.now) c.args.first c.loop-done.done c.loop-done.word c.loop-done-test.true c.loop-done.invariant in
    let bit = bit-lt (mark_at c.args.marks.now (c.args.first + (63 - c.loop-done.done))) in
    omega (arith, small, bit, c.bit_of.ensures)
