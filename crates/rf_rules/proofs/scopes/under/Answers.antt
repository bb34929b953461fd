use Rattle.std.proofs.Common.{rules, sym}
use Rattle.rf_rules.proofs.ScopeRowLemmas.{under-zero}
use Rattle.rf_rules.proofs.scopes.under.Goals as goal

pub returns-then-least-eq0 : goal.returns-then-least-eq0
returns-then-least-eq0 g c = sym (under-zero (g.F.Facts.problem c.args.view.now) (g.F.Facts.state c.args.view.now) c.args.z (search rules))
