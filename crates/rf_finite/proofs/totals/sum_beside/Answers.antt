use Rattle.std.proofs.Common.{arith, sym, ◌∙◌}
use Rattle.rf_finite.proofs.Range.{sum_below-term}
use Rattle.rf_finite.proofs.Sums.{sum_below-without}
use Rattle.rf_finite.proofs.totals.sum_beside.Goals as goal

pub overflow_sub-result : goal.overflow_sub-result
overflow_sub-result g c =
    let term = sum_below-term (g.P.Parts.bound c.args.parts.now) (g.P.Parts.counted c.args.parts.now) (g.P.Parts.part c.args.parts.now) c.args.number c.requires.below
    (sym c.counted.ensures ∙ c.if-counted.true) in
    omega (arith, term, c.requires.total, c.part.ensures)

pub returns-then-counted : goal.returns-then-counted
returns-then-counted g c =
    let whole = sum_below-without (g.P.Parts.bound c.args.parts.now) (g.P.Parts.counted c.args.parts.now) (g.P.Parts.part c.args.parts.now) c.args.number c.requires.below
    (sym c.counted.ensures ∙ c.if-counted.true) in
    omega (arith, whole, c.requires.total, c.part.ensures)
