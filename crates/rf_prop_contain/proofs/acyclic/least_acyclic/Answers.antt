use Rattle.std.proofs.Common.{refl, sym}
use Rattle.rf_prop_contain.proofs.AcyclicLemmas.{none_acyclic}
use Rattle.rf_prop_contain.proofs.acyclic.least_acyclic.Goals as goal

pub returns-then-not-may_lead : goal.returns-then-not-may_lead
returns-then-not-may_lead g c =
    sym (none_acyclic (g.F.Facts.problem c.args.view.now) (g.F.Facts.state c.args.view.now) c.args.r c.args.a (c.if-not-may_lead.ensures refl))
