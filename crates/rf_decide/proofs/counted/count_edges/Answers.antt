use Rattle.std.proofs.Common.{List, length, ap, ◌∙◌}
use Rattle.rf_rules.specs.declared.decision.Decision.{Decision}
use Rattle.rf_decide.specs.Choice.{edges_from}
use Rattle.rf_decide.proofs.Joining.{joined_rows}
use Rattle.rf_decide.proofs.counted.count_edges.Goals as goal

pub returns-clause-total : goal.returns-clause-total
returns-clause-total g c =
    let p = g.F.Facts.problem c.args.view.now in
    let s = g.F.Facts.state c.args.view.now in
    c.count_all.ensures.total ∙ ap (λ (ds : List Decision). length ds)
    (joined_rows (length p.references) (length s.objects) (edges_from p s))
