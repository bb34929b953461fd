use Rattle.std.proofs.Common.{◌≡◌, Option, subst}
use Rattle.std.specs.Prelude.{IfOk}
use Rattle.rf_rules.specs.declared.rule.Rule.{Rule}
use Rattle.rf_pending.proofs.RowLemmas.{first_below-rows}
use Rattle.rf_pending.proofs.edges.least_of_edges.Goals as goal

pub returns-clause-least : goal.returns-clause-least
returns-clause-least g c = subst (λ (o : Option Rule). IfOk c.least.result (λ rule. rule ≡ o))
    (first_below-rows (g.R.EdgeRows.references c.args.edges.now) (g.R.EdgeRows.objects c.args.edges.now) (g.R.EdgeRows.found c.args.edges.now)) c.least.ensures.least
