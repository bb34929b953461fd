use Rattle.std.proofs.Common.{◌∙◌, ℕ, Bool, false, [], get_or, refl, sym}
use Rattle.rf_names.specs.Tables.{passes_at}
use Rattle.rf_names.proofs.LoopSteps.{kept_more, left_more}
use Rattle.rf_names.proofs.members.declared_above.Goals as goal
use Rattle.rf_names.proofs.members.declared_above.Goals.{then-is_declared_above+in_ok-push, else-is_declared_above}

pub loop-reference-preserved : goal.loop-reference-preserved
loop-reference-preserved c =
    let passes : ℕ → Bool = passes_at (λ r. get_or c.args.marks.now r.source false) c.args.declared.now.references in
    let i = c.loop-reference.reference-index in
    let next = get_or c.args.references.now i 0 in
    elim c.if-is_declared_above.branch [
      | then-is_declared_above+in_ok-push w ↦ rw w.above-is
          (kept_more passes [] c.loop-reference.above.items w.push.new.self.items c.args.references.now i 0 next c.loop-reference-test.true refl
          c.loop-reference.invariant (sym c.is_declared_above.ensures ∙ w.if-is_declared_above.true) w.in_ok-push.ensures.items)
      | else-is_declared_above w ↦ rw w.above-is
          (left_more passes [] c.loop-reference.above.items c.args.references.now i 0 next c.loop-reference-test.true refl
          c.loop-reference.invariant (sym c.is_declared_above.ensures ∙ w.if-is_declared_above.false))
    ]
