use Rattle.std.proofs.Common.{arith, sym, ◌∙◌}
use Rattle.rf_finite.proofs.Ends.{ends_below-unbounded}
use Rattle.rf_finite.proofs.parts.sum_of_ends.Goals as goal

pub returns-in-None : goal.returns-in-None
returns-in-None g c =
    sym (ends_below-unbounded (g.P.Parts.bound c.args.ends.now) (g.P.Parts.counted c.args.ends.now) (g.P.Parts.part c.args.ends.now) c.loop-number.number
    (omega (arith, c.loop-number-test.true, c.bound-number-end.ensures)) (sym c.counted.ensures ∙ c.if-counted.true) (sym c.part.ensures ∙ c.in-None.is))
