use Rattle.std.proofs.Common.{arith, sym, ◌∙◌}
use Rattle.rf_finite.proofs.Range.{first_below-at}
use Rattle.rf_finite.proofs.rule.first_found.Goals as goal

pub returns-in-Some : goal.returns-in-Some
returns-in-Some g c =
    sym (first_below-at (g.R.Rule.bound c.args.rule.now) (g.R.Rule.found c.args.rule.now) c.loop-number.number c.in-Some.value (omega arith) c.loop-number.invariant (sym c.find.ensures ∙ c.in-Some.is))
