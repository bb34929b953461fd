use Rattle.std.proofs.Common.{sym}
use Rattle.rf_store.proofs.Inserts.{equal_can, equal_done, left_can, left_done, right_can, right_done}
use Rattle.rf_store.proofs.tree.+insert.Goals as goal

pub join-requires-clause-sides : goal.join-requires-clause-sides
join-requires-clause-sides t c =
    rw c.entry_of-here.ensures (left_can c.args.table.now c.args.link c.args.key.now c.args.value.now c.in-Some.field-0.now c.requires.in_table c.in-Some.ensures.node c.in-Some.ensures.tree (sym c.in-Less.ensures) c.insert-left.new.table _ c.insert-left.ensures)

pub push-requires-in-Equal-clause-sides : goal.push-requires-in-Equal-clause-sides
push-requires-in-Equal-clause-sides t c =
    equal_can c.args.table.now c.args.link c.args.key.now c.args.value.now c.in-Some.field-0.now c.requires.in_table c.in-Some.ensures.node c.in-Some.ensures.tree (sym c.in-Equal.ensures)

pub join-requires-in-Greater-clause-sides : goal.join-requires-in-Greater-clause-sides
join-requires-in-Greater-clause-sides t c =
    rw c.entry_of-here.ensures (right_can c.args.table.now c.args.link c.args.key.now c.args.value.now c.in-Some.field-0.now c.requires.in_table c.in-Some.ensures.node c.in-Some.ensures.tree (sym c.in-Greater.ensures) c.insert-right.new.table _ c.insert-right.ensures)

pub returns-in-Less : goal.returns-in-Less
returns-in-Less t c =
    left_done c.args.table.now c.args.link c.args.key.now c.args.value.now c.in-Some.field-0.now c.requires.in_table c.in-Some.ensures.node c.in-Some.ensures.tree (sym c.in-Less.ensures) c.insert-left.new.table _ c.insert-left.ensures c.join.new.table _ (rw c.entry_of-here.ensures at c.join.ensures)

pub returns-in-Equal : goal.returns-in-Equal
returns-in-Equal t c =
    equal_done c.args.table.now c.args.link c.args.key.now c.args.value.now c.in-Some.field-0.now c.requires.in_table c.in-Some.ensures.node c.in-Some.ensures.tree (sym c.in-Equal.ensures) c.push-in-Equal.new.self _ c.push-in-Equal.ensures

pub returns-in-Greater : goal.returns-in-Greater
returns-in-Greater t c =
    right_done c.args.table.now c.args.link c.args.key.now c.args.value.now c.in-Some.field-0.now c.requires.in_table c.in-Some.ensures.node c.in-Some.ensures.tree (sym c.in-Greater.ensures) c.insert-right.new.table _ c.insert-right.ensures c.join-in-Greater.new.table _ (rw c.entry_of-here.ensures at c.join-in-Greater.ensures)
