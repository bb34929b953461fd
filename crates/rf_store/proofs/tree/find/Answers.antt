use Rattle.std.proofs.Common.{arith, sym, ◌∙◌}
use Rattle.rf_store.proofs.Lookups.{value_less, value_equal, value_greater}
use Rattle.rf_store.proofs.tree.find.Goals as goal

pub loop-row-preserved-in-Less : goal.loop-row-preserved-in-Less
loop-row-preserved-in-Less c = record {
  in_table = omega (arith, c.in-Some.ensures.node.left_before, c.loop-row.invariant.in_table);
  value = c.loop-row.invariant.value ∙ value_less c.args.table.now.parts c.loop-row.link c.in-Some.row.now c.in-Some.ensures.node c.in-Some.ensures.tree c.args.key.now (sym c.in-Less.ensures);
}

pub returns-in-Equal : goal.returns-in-Equal
returns-in-Equal c =
    sym (c.loop-row.invariant.value ∙ value_equal c.args.table.now.parts c.loop-row.link c.in-Some.row.now c.in-Some.ensures.node c.in-Some.ensures.tree c.args.key.now (sym c.in-Equal.ensures))

pub loop-row-preserved : goal.loop-row-preserved
loop-row-preserved c = record {
  in_table = omega (arith, c.in-Some.ensures.node.right_before, c.loop-row.invariant.in_table);
  value = c.loop-row.invariant.value ∙ value_greater c.args.table.now.parts c.loop-row.link c.in-Some.row.now c.in-Some.ensures.node c.in-Some.ensures.tree c.args.key.now (sym c.in-Greater.ensures);
}
