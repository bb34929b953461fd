use Rattle.std.proofs.Common.{◌≡◌, ℕ, true, arith, inl, inr, subst, sym, ap, ◌∙◌}
use Rattle.rf_finite.proofs.Range.{below_or_last}
use Rattle.rf_evaluate.specs.Elements.{element_at}
use Rattle.rf_rules.specs.Containers.{covers}
use Rattle.rf_rules.specs.Containment.{is_possible}
use Rattle.rf_rules.proofs.ContainmentLemmas.{possible-among}
use Rattle.rf_rules.proofs.containment.possible.with_those_by.Goals as goal

pub returns-clause-all : goal.returns-clause-all
returns-clause-all g c =
    let p = g.F.Facts.problem c.args.view.now in
    let s = g.F.Facts.state c.args.view.now in
    possible-among p s c.args.b c.args.q c.ends_into-ends.result c.loop-number.found c.ends_into-ends.ensures.complete
    (λ i l. c.loop-number.invariant.all i (omega arith))

pub loop-number-preserved : goal.loop-number-preserved
loop-number-preserved g c =
    let p = g.F.Facts.problem c.args.view.now in
    let s = g.F.Facts.state c.args.view.now in
    record {
      possible = c.with_possible-found.ensures.possible;
      kept = λ x y h. c.with_possible-found.ensures.kept x y (c.loop-number.invariant.kept x y h);
      all = λ i l. elim (below_or_last c.loop-number.number i (omega arith)) [
        | inl m ↦ (λ h. c.with_possible-found.ensures.kept c.args.q _ (c.loop-number.invariant.all i m h))
        | inr e ↦ subst
            (λ (k : ℕ). is_possible p s c.args.b c.args.q k ≡ true → covers c.with_possible-found.result c.args.q k ≡ true)
            (c.at.ensures ∙ ap (element_at c.ends_into-ends.result) (sym e)) c.with_possible-found.ensures.here
      ];
    }
