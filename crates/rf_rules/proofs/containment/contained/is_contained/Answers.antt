use Rattle.std.proofs.Common.{◌∙◌}
use Rattle.rf_rules.proofs.ContainmentLemmas.{each_candidate-contained}
use Rattle.rf_rules.proofs.containment.contained.is_contained.Goals as goal

pub returns : goal.returns
returns g c =
    c.each_candidate.ensures
    ∙ each_candidate-contained (g.F.Facts.problem c.args.view.now) (g.F.Facts.state c.args.view.now) c.args.b c.args.contained c.requires.contained
