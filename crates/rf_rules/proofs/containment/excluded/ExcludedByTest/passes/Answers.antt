use Rattle.std.proofs.Common.{◌∙◌}
use Rattle.rf_rules.proofs.ContainmentLemmas.{one_container-fires}
use Rattle.rf_rules.proofs.containment.excluded.ExcludedByTest.passes.Goals as goal

pub returns : goal.returns
returns g c =
    let row = c.args.self.now in
    c.may_be_other.ensures
    ∙ one_container-fires (g.F.Facts.problem row.view.now) (g.F.Facts.state row.view.now) row.reference row.from row.to row.other c.args.number
    row.there.0 row.there.1 row.to_there row.other_there c.requires row.contains_other row.container
