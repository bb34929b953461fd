use Rattle.std.proofs.Common.{arith, sym, ◌∙◌}
use Rattle.rf_store.proofs.Order.{compare_less, compare_greater, compare_more, compare_all}
use Rattle.rf_store.proofs.compare.compare.Goals as goal

pub returns-then-a-i : goal.returns-then-a-i
returns-then-a-i c = sym (c.loop-i.invariant ∙ compare_less c.args.a.now c.args.b.now c.loop-i.i (omega arith) (omega arith) c.if-a-i.true)

pub returns-then-b-i : goal.returns-then-b-i
returns-then-b-i c = sym (c.loop-i.invariant ∙ compare_greater c.args.a.now c.args.b.now c.loop-i.i (omega arith) (omega arith) c.if-b-i.true)

pub loop-i-preserved : goal.loop-i-preserved
loop-i-preserved c = c.loop-i.invariant ∙ compare_more c.args.a.now c.args.b.now c.loop-i.i (omega arith) (omega arith) (omega arith)

pub returns : goal.returns
returns c = sym (c.loop-i.invariant ∙ compare_all c.args.a.now c.args.b.now c.loop-i.i (omega arith) (omega arith))
