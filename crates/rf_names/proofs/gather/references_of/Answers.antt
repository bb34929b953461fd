use Rattle.std.proofs.Common.{arith}
use Rattle.rf_names.proofs.References.{references_more}
use Rattle.rf_names.proofs.gather.references_of.Goals as goal

pub loop-number-preserved : goal.loop-number-preserved
loop-number-preserved c =
    let e = references_more c.args.classes.now c.loop-number.number c.index-classes-number.result (omega arith) c.index-classes-number.is in
    cc (c.loop-number.invariant, c.in_ok-push_class_references.ensures)
