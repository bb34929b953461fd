use Rattle.std.proofs.Common.{◌≡◌, ◌<◌, sym, arith, length, ◌∙◌}
use Rattle.rf_finite.proofs.Range.{first_below-at, first_below-none}
use Rattle.rf_pending.proofs.rows.least.Goals as goal

pub returns-in-Some-clause-least : goal.returns-in-Some-clause-least
returns-in-Some-clause-least g c =
    let below : c.loop-k.k < g.R.Rows.many c.args.rows.now = omega (arith, c.loop-k-test.true, c.len-k-end.ensures, c.requires.size) in
    sym (first_below-at (g.R.Rows.many c.args.rows.now) (g.R.Rows.found c.args.rows.now) c.loop-k.k c.in-Some.rule below
    (first_below-none c.loop-k.k (g.R.Rows.found c.args.rows.now) (λ j l. c.loop-k.invariant.before j l (omega arith))) (sym c.in_ok-rule.ensures ∙ c.in-Some.is))

pub returns-clause-least : goal.returns-clause-least
returns-clause-least g c =
    sym (first_below-none (g.R.Rows.many c.args.rows.now) (g.R.Rows.found c.args.rows.now)
    (λ j l. c.loop-k.invariant.before j (omega (arith, c.loop-k-test.false, c.len-k-end.ensures, c.requires.size)) l))
