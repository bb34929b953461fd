use Rattle.std.proofs.Common.{◌∙◌, ◌&&◌, ◌+◌, ap, arith, not, refl}
use Rattle.std.specs.FinSet.{contains}
use Rattle.rf_problem.proofs.AboveLemmas.{IsRaised-set, IsRaised-skip}
use Rattle.rf_problem.proofs.class_rows.raise.Goals as goal
use Rattle.rf_problem.proofs.class_rows.raise.Goals.{then-not-is_empty, else-not-is_empty}

pub loop-class-preserved : goal.loop-class-preserved
loop-class-preserved c = elim c.if-not-is_empty.branch [
  | then-not-is_empty w ↦ rw w.grew-is
      (IsRaised-set c.args.classes.now c.args.rows.now c.loop-class.rows c.if-not-is_empty.rows c.loop-class.class (c.loop-class.class + 1)
      c.loop-class.grew c.joined_row-joined.result (omega arith) c.loop-class.invariant c.joined_row-joined.ensures w.rows-is refl)
  | else-not-is_empty w ↦
      IsRaised-skip c.args.classes.now c.args.rows.now c.loop-class.rows c.if-not-is_empty.rows c.loop-class.class (c.loop-class.class + 1)
      c.loop-class.grew c.if-not-is_empty.grew c.joined_row-joined.result c.without.result c.loop-class.invariant c.joined_row-joined.ensures
      (λ d. c.without.ensures.members d ∙ ap (λ s. contains c.joined_row-joined.result d && not (contains s d)) c.row.ensures)
      (c.is_empty.ensures.members.0 w.if-not-is_empty.false) w.rows-is w.grew-is refl
]
