use Rattle.std.proofs.Common.{◌<◌, ◌+◌, ◌*◌, ◌==◌, ℕ, arith, inl, inr, subst, sym, ap, ◌∙◌, true≢false}
use Rattle.std.proofs.lemmas.Bool.{both_ways, cases_Bool, eq-eqb}
use Rattle.rf_finite.proofs.Range.{below_or_last}
use Rattle.rf_pending.specs.Rows.{is_marked}
use Rattle.rf_prop_mult.proofs.candidates.touch_reference.Goals as goal

pub loop-a-preserved : goal.loop-a-preserved
loop-a-preserved c =
    let inv = c.loop-a.invariant in
    let w = c.touch.ensures in
    let n = c.args.objects in
    let marks = c.touch.new.self in
    record {
      size = w.size ∙ inv.size;
      kept = λ k l h. inv.kept k (subst (λ (m : ℕ). k < m) w.size l) (w.far k l h).0;
      marked = λ x lx l. elim (cases_Bool (is_marked marks (c.args.r * n + x))) [
        | inl e ↦ e
        | inr off ↦ (
            let far = w.far (c.args.r * n + x) l off in
            elim (below_or_last c.loop-a.a x (omega arith)) [
              | inl m ↦ absurd (true≢false (sym (inv.marked x m (subst (λ (k : ℕ). c.args.r * n + x < k) w.size l)) ∙ far.0))
              | inr e ↦ absurd (both_ways (c.row_of.result == c.args.r * n + x) far.1
                  (eq-eqb c.row_of.result (c.args.r * n + x) (c.row_of.ensures ∙ ap (λ (k : ℕ). c.args.r * n + k) (sym e))))
            ]
            )
      ];
    }
