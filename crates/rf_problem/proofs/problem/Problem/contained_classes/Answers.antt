use Rattle.std.proofs.Common.{◌∙◌, ◌||◌, sym, ap, true≢false}
use Rattle.std.specs.FinSet.{contains}
use Rattle.rf_problem.proofs.BelowLemmas.{is_inside-all, is_inside-more}
use Rattle.rf_problem.proofs.problem.Problem.contained_classes.Goals as goal
use Rattle.rf_problem.proofs.problem.Problem.contained_classes.Goals.{then-is_contains, else-is_contains}

pub loop-reference-preserved : goal.loop-reference-preserved
loop-reference-preserved c = λ x. elim c.if-is_contains.branch [
  | then-is_contains w ↦ is_inside-more c.args.self.now.classes x c.deref-reference-items.result.now c.loop-reference.reference-index c.reference-item.result
      (contains c.loop-reference.contained x) (contains c.if-is_contains.contained x) c.loop-reference-test.true c.reference-item.is (c.loop-reference.invariant x)
      (λ _. ap (λ s. contains s x) w.contained-is ∙ w.either-contained.ensures.members x ∙ ap (λ b. contains c.loop-reference.contained x || b) (w.below.ensures x))
      (λ f. absurd (true≢false (sym w.if-is_contains.true ∙ c.is_contains.ensures ∙ f)))
  | else-is_contains w ↦ is_inside-more c.args.self.now.classes x c.deref-reference-items.result.now c.loop-reference.reference-index c.reference-item.result
      (contains c.loop-reference.contained x) (contains c.if-is_contains.contained x) c.loop-reference-test.true c.reference-item.is (c.loop-reference.invariant x)
      (λ t. absurd (true≢false (sym t ∙ sym c.is_contains.ensures ∙ w.if-is_contains.false)))
      (λ _. ap (λ s. contains s x) w.contained-is)
]

pub returns : goal.returns
returns c = λ x. is_inside-all c.args.self.now.classes x c.deref-reference-items.result.now c.args.self.now.references c.loop-reference.reference-index
    (contains c.loop-reference.contained x) c.deref-reference-items.ensures c.loop-reference-test.false (c.loop-reference.invariant x)
