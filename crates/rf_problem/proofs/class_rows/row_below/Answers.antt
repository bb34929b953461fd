use Rattle.std.proofs.Common.{arith}
use Rattle.rf_problem.proofs.BelowLemmas.{row_below-all}
use Rattle.rf_problem.proofs.class_rows.row_below.Goals as goal

pub returns : goal.returns
returns c = row_below-all c.args.classes.now c.args.above.now c.loop-class.class c.args.top c.loop-class.below (omega arith) c.requires.there
    c.requires.rows c.loop-class.invariant
