use Rattle.std.proofs.Common.{arith, sym, ap, ◌∙◌}
use Rattle.std.specs.Bool.{then_some}
use Rattle.rf_finite.proofs.Range.{first_below-at}
use Rattle.rf_finite.proofs.test.first_passing.Goals as goal

pub returns-then-passes : goal.returns-then-passes
returns-then-passes g c =
    sym (first_below-at (g.T.Test.bound c.args.test.now) (λ k. then_some (g.T.Test.passing c.args.test.now k) k) c.loop-number.number c.loop-number.number
    (omega arith) c.loop-number.invariant (ap (λ b. then_some b c.loop-number.number) (sym c.passes.ensures ∙ c.if-passes.true)))
