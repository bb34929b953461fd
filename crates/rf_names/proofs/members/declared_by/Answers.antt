use Rattle.std.proofs.Common.{◌∙◌, ◌==◌, ℕ, Bool, [], get_or, refl, sym}
use Rattle.rf_names.specs.Tables.{passes_at}
use Rattle.rf_names.proofs.LoopSteps.{kept_more, left_more}
use Rattle.rf_names.proofs.members.declared_by.Goals as goal
use Rattle.rf_names.proofs.members.declared_by.Goals.{then-is_declared_by+in_ok-push, else-is_declared_by}

pub loop-reference-preserved : goal.loop-reference-preserved
loop-reference-preserved c =
    let passes : ℕ → Bool = passes_at (λ r. r.source == c.args.class) c.args.declared.now.references in
    let i = c.loop-reference.reference-index in
    let next = get_or c.args.references.now i 0 in
    elim c.if-is_declared_by.branch [
      | then-is_declared_by+in_ok-push w ↦ rw w.own-is
          (kept_more passes [] c.loop-reference.own.items w.push.new.self.items c.args.references.now i 0 next c.loop-reference-test.true refl
          c.loop-reference.invariant (sym c.is_declared_by.ensures ∙ w.if-is_declared_by.true) w.in_ok-push.ensures.items)
      | else-is_declared_by w ↦ rw w.own-is
          (left_more passes [] c.loop-reference.own.items c.args.references.now i 0 next c.loop-reference-test.true refl
          c.loop-reference.invariant (sym c.is_declared_by.ensures ∙ w.if-is_declared_by.false))
    ]
