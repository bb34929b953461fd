use Rattle.std.proofs.Common.{◌∙◌, sym, true≢false}
use Rattle.rf_evaluate.proofs.WalkLemmas.{equal_lists-from_same, equal_marks-from_same, same-from_equal}
use Rattle.rf_evaluate.proofs.closures.same.Goals as goal

pub returns-then-eq : goal.returns-then-eq
returns-then-eq c = (
  λ equal. same-from_equal c.args.a.now c.args.b.now
      (rw (← c.as_slice.ensures.value, ← c.as_slice-2.ensures.value) (sym c.if-eq.ensures))
      (rw (← c.as_slice-then-eq.ensures.value, ← c.as_slice-then-eq-2.ensures.value) (sym c.eq-then-eq.ensures ∙ equal)),
  λ same. c.eq-then-eq.ensures
      ∙ rw (c.as_slice-then-eq.ensures.value, c.as_slice-then-eq-2.ensures.value) (equal_lists-from_same c.args.a.now c.args.b.now same),
)

pub returns-else-eq : goal.returns-else-eq
returns-else-eq c = (
  λ equal. absurd (true≢false (sym equal ∙ c.if-eq.false)),
  λ same. c.eq.ensures ∙ rw (c.as_slice.ensures.value, c.as_slice-2.ensures.value) (equal_marks-from_same c.args.a.now c.args.b.now same),
)
