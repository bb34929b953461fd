-- The next name is put after the others, or its text came before.
use Rattle.std.proofs.Common.{◌∙◌, ap, not}
use Rattle.rf_names.proofs.FirstLemmas.{first_known, first_new}
use Rattle.rf_names.proofs.numbering.Numbering.of_first.Goals as goal
use Rattle.rf_names.proofs.numbering.Numbering.of_first.Goals.{then-is_none+in_ok-numbering, else-is_none}

pub loop-name-preserved : goal.loop-name-preserved
loop-name-preserved c =
    elim c.if-is_none.branch [
      | then-is_none+in_ok-numbering w ↦ rw w.numbering-is
          (first_new c.args.names.now c.loop-name.name-index _ c.name-item.result _ _ c.as_str.result.now c.find.result c.loop-name-test.true c.name-item.is c.loop-name.invariant
          c.as_str.ensures.bytes c.find.ensures (ap not (c.is_none.ensures ∙ ap not w.if-is_none.true)) w.in_ok-numbering.ensures)
      | else-is_none w ↦ rw w.numbering-is
          (first_known c.args.names.now c.loop-name.name-index _ c.name-item.result _ c.as_str.result.now c.find.result c.loop-name-test.true c.name-item.is c.loop-name.invariant
          c.as_str.ensures.bytes c.find.ensures (ap not (c.is_none.ensures ∙ ap not w.if-is_none.false)))
    ]
