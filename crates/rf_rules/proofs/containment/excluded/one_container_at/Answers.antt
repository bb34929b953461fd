use Rattle.std.proofs.Common.{◌∙◌, sym}
use Rattle.rf_rules.proofs.ContainmentLemmas.{least_excluded_at-none}
use Rattle.rf_rules.proofs.containment.excluded.one_container_at.Goals as goal

pub returns-then-not-is_container : goal.returns-then-not-is_container
returns-then-not-is_container g c =
    sym (least_excluded_at-none (g.F.Facts.problem c.args.view.now) (g.F.Facts.state c.args.view.now) c.args.r c.args.a c.args.b
    (sym c.is_container.ensures ∙ c.if-not-is_container.true))
