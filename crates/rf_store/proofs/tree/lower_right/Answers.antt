use Rattle.std.proofs.Common.{arith}
use Rattle.rf_store.proofs.RightJoins.{single_lowered, double_lower, double_upper, double_top, double_done}
use Rattle.rf_store.proofs.tree.lower_right.Goals as goal

pub push-lowered-requires-clause-sides : goal.push-lowered-requires-clause-sides
push-lowered-requires-clause-sides c =
    single_lowered c.args.table.now _ _ _ c.node.result.now c.requires.sides c.node.ensures.node c.requires.higher (omega arith)

pub push-lower-requires-clause-sides : goal.push-lower-requires-clause-sides
push-lower-requires-clause-sides c =
    double_lower c.args.table.now _ _ _ c.node.result.now c.requires.sides c.node.ensures.node c.requires.higher c.node-2.result.now c.node-2.ensures.node (omega arith)

pub push-upper-requires-clause-sides : goal.push-upper-requires-clause-sides
push-upper-requires-clause-sides c =
    rw c.entry_of-below.ensures (double_upper c.args.table.now _ _ _ c.node.result.now c.requires.sides c.node.ensures.node c.requires.higher c.node-2.result.now c.node-2.ensures.node (omega arith) c.push-lower.new.self _ c.push-lower.ensures)

pub push-requires-2-clause-sides : goal.push-requires-2-clause-sides
push-requires-2-clause-sides c =
    rw c.entry_of-middle.ensures (double_top c.args.table.now _ _ _ c.node.result.now c.requires.sides c.node.ensures.node c.requires.higher c.node-2.result.now c.node-2.ensures.node (omega arith) c.push-lower.new.self _ c.push-lower.ensures c.push-upper.new.self _ (rw c.entry_of-below.ensures at c.push-upper.ensures))

pub returns : goal.returns
returns c =
    double_done c.args.table.now _ _ _ c.node.result.now c.requires.sides c.node.ensures.node c.requires.higher c.node-2.result.now c.node-2.ensures.node (omega arith) c.push-lower.new.self _ c.push-lower.ensures c.push-upper.new.self _ (rw c.entry_of-below.ensures at c.push-upper.ensures) c.push-2.new.self _ (rw c.entry_of-middle.ensures at c.push-2.ensures)
