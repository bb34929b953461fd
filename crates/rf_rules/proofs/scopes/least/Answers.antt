use Rattle.std.proofs.Common.{rules, sym}
use Rattle.rf_rules.proofs.ScopeRowLemmas.{least_object-none}
use Rattle.rf_rules.proofs.scopes.least.Goals as goal

pub returns-then-not-has_end : goal.returns-then-not-has_end
returns-then-not-has_end g c =
    sym (least_object-none (g.F.Facts.problem c.args.view.now) (g.F.Facts.state c.args.view.now) c.args.z c.args.kind (search rules))
