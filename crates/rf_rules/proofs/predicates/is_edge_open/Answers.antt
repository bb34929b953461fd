use Rattle.std.proofs.Common.{rules, ◌≤◌, length, sym, ◌∙◌}
use Rattle.rf_rules.proofs.PredicateLemmas.{edge_known-from, edge_known-to}
use Rattle.rf_rules.proofs.predicates.is_edge_open.Goals.{then-a-objects, else-a-objects}
use Rattle.rf_rules.proofs.predicates.is_edge_open.Goals as goal

pub returns-else-b-objects : goal.returns-else-b-objects
returns-else-b-objects g c =
    let p = g.F.Facts.problem c.args.view.now in
    let s = g.F.Facts.state c.args.view.now in
    elim c.if-a-objects.branch [
      | then-a-objects w ↦ (let past : length s.objects ≤ c.args.b = search rules in
          c.if-b-objects.false ∙ sym (edge_known-to p s c.args.r c.args.a c.args.b past))
      | else-a-objects w ↦ (let past : length s.objects ≤ c.args.a = search rules in
          c.if-b-objects.false ∙ sym (edge_known-from p s c.args.r c.args.a c.args.b past))
    ]
