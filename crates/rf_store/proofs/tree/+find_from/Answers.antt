use Rattle.std.proofs.Common.{sym, ap, ◌∙◌}
use Rattle.rf_store.proofs.Order.{or_else}
use Rattle.rf_store.proofs.Lookups.{first_less, first_equal, first_greater}
use Rattle.rf_store.proofs.tree.+find_from.Goals as goal

pub returns-in-Some-clause-first : goal.returns-in-Some-clause-first
returns-in-Some-clause-first t c =
    let at = first_less c.args.table.now.parts c.args.link c.in_ok-row.row.now c.in_ok-row.ensures.node c.in_ok-row.ensures.tree c.args.key.now (sym c.in-Less.ensures) in
    sym (at ∙ ap (λ o. or_else o (c.in_ok-row.row.now.key, c.in_ok-row.row.now.value)) (sym c.in-Some.ensures.first))

pub returns-in-None-clause-first : goal.returns-in-None-clause-first
returns-in-None-clause-first t c =
    let at = first_less c.args.table.now.parts c.args.link c.in_ok-row.row.now c.in_ok-row.ensures.node c.in_ok-row.ensures.tree c.args.key.now (sym c.in-Less.ensures) in
    rw c.entry_of.ensures (sym (at ∙ ap (λ o. or_else o (c.in_ok-row.row.now.key, c.in_ok-row.row.now.value)) (sym c.in-None.ensures.first)))

pub returns-in-Equal-clause-first : goal.returns-in-Equal-clause-first
returns-in-Equal-clause-first t c =
    rw c.entry_of-in-Equal.ensures (sym (first_equal c.args.table.now.parts c.args.link c.in_ok-row.row.now c.in_ok-row.ensures.node c.in_ok-row.ensures.tree c.args.key.now (sym c.in-Equal.ensures)))

pub returns-in-Greater-clause-first : goal.returns-in-Greater-clause-first
returns-in-Greater-clause-first t c =
    c.find_from-in-Greater.ensures.first ∙ sym (first_greater c.args.table.now.parts c.args.link c.in_ok-row.row.now c.in_ok-row.ensures.node c.in_ok-row.ensures.tree c.args.key.now (sym c.in-Greater.ensures))
