use Rattle.std.proofs.Common.{◌∙◌, sym, length, arith}
use Rattle.rf_finite.proofs.Range.{some_below-from_one}
use Rattle.rf_rules.specs.Containment.{must_hold}
use Rattle.rf_prop_contain.proofs.concerns.must_hold_some.Goals as goal

pub returns-then-does_hold : goal.returns-then-does_hold
returns-then-does_hold g c =
    let p = g.F.Facts.problem c.args.view.now in
    let s = g.F.Facts.state c.args.view.now in
    sym (some_below-from_one (length s.objects) (must_hold p s c.args.x) c.loop-other.other
    (omega (arith, c.loop-other-test.true, c.objects-other-end.ensures)) (sym c.does_hold.ensures ∙ c.if-does_hold.true))
