use Rattle.std.proofs.Common.{◌∙◌, sym, ap, arith, true≢false, ◌++◌, ◌∷◌, []}
use Rattle.rf_problem.proofs.StockLemmas.{new_objects-more}
use Rattle.rf_problem.proofs.stock.new_objects.Goals as goal
use Rattle.rf_problem.proofs.stock.new_objects.Goals.{then-has_new+in_ok-push, else-has_new}

pub loop-number-preserved : goal.loop-number-preserved
loop-number-preserved c = elim c.if-has_new.branch [
  | then-has_new+in_ok-push w ↦ new_objects-more c.args.classes.now c.loop-number.number c.index-classes-number.result c.loop-number.objects.items
      c.if-has_new.objects.items (omega arith) c.index-classes-number.is c.loop-number.invariant
      (λ _. ap (λ v. v.items) w.objects-is ∙ w.in_ok-push.ensures.items ∙ ap (λ o. c.loop-number.objects.items ++ o ∷ []) w.new_object.ensures)
      (λ f. absurd (true≢false (sym (sym c.has_new.ensures ∙ w.if-has_new.true) ∙ f)))
  | else-has_new w ↦ new_objects-more c.args.classes.now c.loop-number.number c.index-classes-number.result c.loop-number.objects.items
      c.if-has_new.objects.items (omega arith) c.index-classes-number.is c.loop-number.invariant
      (λ t. absurd (true≢false (sym t ∙ sym c.has_new.ensures ∙ w.if-has_new.false))) (λ _. ap (λ v. v.items) w.objects-is)
]
