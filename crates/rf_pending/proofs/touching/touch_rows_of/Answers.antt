use Rattle.std.proofs.Common.{◌≡◌, ◌<◌, ◌+◌, ◌*◌, ℕ, false, arith, inl, inr, subst, sym, ap, ◌∙◌, length}
use Rattle.rf_finite.proofs.Range.{below_or_last}
use Rattle.rf_state.specs.State.{fact}
use Rattle.rf_evaluate.specs.Elements.{element_at}
use Rattle.rf_pending.specs.Rows.{is_marked}
use Rattle.rf_pending.specs.Touching.{stands}
use Rattle.rf_pending.proofs.TouchLemmas.{far-among, not_so}
use Rattle.rf_pending.proofs.touching.touch_rows_of.Goals as goal

pub returns-clause-far : goal.returns-clause-far
returns-clause-far g c = λ a la l h.
    let p = g.F.Facts.problem c.args.view.now in
    let s = g.F.Facts.state c.args.view.now in
    let n = length s.objects in
    let inv = c.loop-number.invariant in
    far-among c.args.standing c.args.o n c.ends_into-ends.result (λ x. fact p s c.args.r x c.args.o) a
    (c.ends_into-ends.ensures.complete a la)
    (λ i li e. inv.listed i (omega (arith, c.loop-number-test.false, c.count-number-end.ensures))
    (subst (λ (x : ℕ). c.args.r * n + x < length c.loop-number.marks.rows.items) (sym e) l)
    (subst (λ (x : ℕ). is_marked c.loop-number.marks (c.args.r * n + x) ≡ false) (sym e) h))
    (inv.own a l h)

pub loop-number-preserved : goal.loop-number-preserved
loop-number-preserved g c =
    let p = g.F.Facts.problem c.args.view.now in
    let s = g.F.Facts.state c.args.view.now in
    let n = length s.objects in
    let inv = c.loop-number.invariant in
    let w = c.touch_where.ensures in
    record {
      size = w.size ∙ inv.size;
      kept = λ k l h. inv.kept k (subst (λ (m : ℕ). k < m) w.size l) (w.far k l h).0;
      own = λ a l h. inv.own a (subst (λ (m : ℕ). c.args.r * n + a < m) w.size l) (w.far (c.args.r * n + a) l h).0;
      listed = λ i li l h. elim (below_or_last c.loop-number.number i (omega arith)) [
        | inl m ↦ inv.listed i m (subst (λ (m : ℕ). c.args.r * n + element_at c.ends_into-ends.result i < m) w.size l)
            (w.far (c.args.r * n + element_at c.ends_into-ends.result i) l h).0
        | inr e ↦ (
            let at : c.at-a.result ≡ element_at c.ends_into-ends.result i = c.at-a.ensures ∙ ap (element_at c.ends_into-ends.result) (sym e) in
            let row : c.row_of-in-loop-number.result ≡ c.args.r * n + element_at c.ends_into-ends.result i =
            c.row_of-in-loop-number.ensures ∙ (ap (λ (m : ℕ). c.args.r * m + c.at-a.result) c.objects-objects.ensures ∙ ap (λ (x : ℕ). c.args.r * n + x) at) in
            let so = not_so c.counts-counts.result c.row_of-in-loop-number.result (c.args.r * n + element_at c.ends_into-ends.result i)
            (w.far (c.args.r * n + element_at c.ends_into-ends.result i) l h).1 row in
            subst (λ (x : ℕ). stands c.args.standing (fact p s c.args.r x c.args.o) ≡ false) at
            (sym (c.counts-counts.ensures ∙ ap (stands c.args.standing) c.fact.ensures) ∙ so)
            )
      ];
    }
