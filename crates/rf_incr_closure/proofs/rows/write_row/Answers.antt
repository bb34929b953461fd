use Rattle.std.proofs.Common.{length}
use Rattle.rf_incr_closure.specs.Writes.{mark_at}
use Rattle.rf_incr_closure.proofs.RowLemmas.{IsWriting-more, others-more, unchanged-more}
use Rattle.rf_incr_closure.proofs.rows.write_row.Goals as goal

pub returns-in_err-write-clause-others : goal.returns-in_err-write-clause-others
returns-in_err-write-clause-others c =
    others-more c.args.store.now c.loop-block.store c.write.new.store c.args.tag (length c.args.marks.now) c.args.from (mark_at c.args.marks.now) c.loop-block.block
    c.row_key.result c.block_value-words.result c.row_key.ensures (c.block_count-block-end.ensures.no_more c.loop-block.block c.loop-block-test.true)
    c.loop-block.invariant c.write.ensures.others

pub returns-in_err-write-clause-unchanged : goal.returns-in_err-write-clause-unchanged
returns-in_err-write-clause-unchanged c =
    unchanged-more c.args.store.now c.loop-block.store c.write.new.store c.args.tag (length c.args.marks.now) c.args.from (mark_at c.args.marks.now) c.loop-block.block
    c.row_key.result c.block_value-words.result c.row_key.ensures (c.block_count-block-end.ensures.no_more c.loop-block.block c.loop-block-test.true)
    c.loop-block.invariant c.write.ensures.others c.block_value-words.ensures c.write.ensures.same

pub loop-block-preserved : goal.loop-block-preserved
loop-block-preserved c =
    IsWriting-more c.args.store.now c.loop-block.store c.write.new.store c.args.tag (length c.args.marks.now) c.args.from (mark_at c.args.marks.now) c.loop-block.block
    c.row_key.result c.block_value-words.result c.row_key.ensures (c.block_count-block-end.ensures.no_more c.loop-block.block c.loop-block-test.true)
    c.loop-block.invariant c.write.ensures.others c.block_value-words.ensures c.write.ensures.same c.in_ok-write.ensures.words c.write.ensures.saved

pub block_value-words-requires : goal.block_value-words-requires
block_value-words-requires c = c.block_count-block-end.ensures.no_more c.loop-block.block c.loop-block-test.true
