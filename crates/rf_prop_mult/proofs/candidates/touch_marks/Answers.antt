use Rattle.std.proofs.Common.{◌≡◌, ◌<◌, ◌+◌, ◌*◌, ℕ, false, arith, inl, inr, subst, sym, ◌∙◌, length}
use Rattle.rf_finite.proofs.Range.{below_or_last}
use Rattle.rf_pending.specs.Rows.{is_marked}
use Rattle.rf_prop_mult.specs.Kinds.{is_near}
use Rattle.rf_prop_mult.proofs.candidates.touch_marks.Goals as goal

pub loop-reference-preserved : goal.loop-reference-preserved
loop-reference-preserved g c =
    let p = g.F.Facts.problem c.args.view.now in
    let s = g.F.Facts.state c.args.view.now in
    let n = length s.objects in
    let inv = c.loop-reference.invariant in
    let w = c.touch_rows_of.ensures in
    record {
      size = w.size ∙ inv.size;
      kept = λ k l h. inv.kept k (subst (λ (m : ℕ). k < m) w.size l) (w.kept k l h);
      far = λ r a lr la l h. elim (below_or_last c.loop-reference.reference r (omega arith)) [
        | inl m ↦ inv.far r a m la (subst (λ (m : ℕ). r * n + a < m) w.size l) (w.kept (r * n + a) l h)
        | inr e ↦ subst (λ (q : ℕ). is_near p s c.args.o q a ≡ false) (sym e)
            (w.far a la (subst (λ (q : ℕ). q * n + a < length c.touch_rows_of.new.marks.rows.items) e l)
            (subst (λ (q : ℕ). is_marked c.touch_rows_of.new.marks (q * n + a) ≡ false) e h))
      ];
    }
