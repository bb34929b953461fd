use Rattle.rf_state.proofs.CopyLemmas.{IsRowPut-one, IsRowPut-two}
use Rattle.rf_state.proofs.copies.put_row.Goals as goal

pub returns-in_ok-insert-2 : goal.returns-in_ok-insert-2
returns-in_ok-insert-2 c = IsRowPut-two c.args.copies.now c.insert.new.self c.insert-then-b-fresh.new.self c.args.key.0 c.args.key.1 c.args.key.2
    c.args.fresh.of c.args.fresh.number c.args.truth c.if-b-fresh.true c.requires c.in_ok-insert.ensures.updates.0 c.in_ok-insert-2.ensures.updates.0

pub returns-else-b-fresh : goal.returns-else-b-fresh
returns-else-b-fresh c = IsRowPut-one c.args.copies.now c.insert.new.self c.insert.new.self c.args.key.0 c.args.key.1 c.args.key.2
    c.args.fresh.of c.args.fresh.number c.args.truth c.if-b-fresh.false c.requires c.in_ok-insert.ensures.updates.0
