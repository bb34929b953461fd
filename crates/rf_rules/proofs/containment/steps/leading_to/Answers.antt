use Rattle.std.proofs.Common.{◌∙◌, length}
use Rattle.std.specs.Prelude.{nat_le}
use Rattle.rf_finite.proofs.Walks.{walk_below-reverse}
use Rattle.rf_rules.specs.Containment.{must_hold}
use Rattle.rf_rules.specs.Words.{lo}
use Rattle.rf_rules.proofs.containment.steps.leading_to.Goals as goal

pub returns-clause-marks : goal.returns-clause-marks
returns-clause-marks g c = λ b l.
    let p = g.F.Facts.problem c.args.view.now in
    let s = g.F.Facts.state c.args.view.now in
    c.in_ok-marks.ensures.value b l ∙ walk_below-reverse (must_hold p s) (λ x. nat_le 1 (lo s x)) (length s.objects) b c.args.a
