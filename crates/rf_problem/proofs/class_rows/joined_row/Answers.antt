use Rattle.std.proofs.Common.{◌∙◌, ◌||◌, ap, arith}
use Rattle.std.specs.FinSet.{contains}
use Rattle.rf_problem.specs.Above.{row}
use Rattle.rf_problem.proofs.AboveLemmas.{joined-all, joined-more}
use Rattle.rf_problem.proofs.class_rows.joined_row.Goals as goal

pub loop-super_class-preserved : goal.loop-super_class-preserved
loop-super_class-preserved c = λ d.
    joined-more c.args.rows.now (row c.args.rows.now c.args.class) c.deref-super_class-items.result.now c.loop-super_class.super_class-index d
    c.loop-super_class.joined c.either-joined.result (omega arith) (c.loop-super_class.invariant d)
    (c.either-joined.ensures.members d ∙ ap (λ s. contains c.loop-super_class.joined d || contains s d) c.row.ensures)

pub returns : goal.returns
returns c = λ d.
    joined-all c.args.rows.now (row c.args.rows.now c.args.class) c.loop-super_class.joined c.deref-super_class-items.result.now _
    c.loop-super_class.super_class-index d (omega arith) (c.deref-super_class-items.ensures ∙ ap (λ k. k.supers) c.class_at.ensures)
    (c.loop-super_class.invariant d)
