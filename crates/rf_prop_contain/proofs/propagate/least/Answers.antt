use Rattle.std.proofs.Common.{◌≡◌, sym}
use Rattle.std.proofs.lemmas.Result.{IfOk-weaker}
use Rattle.rf_pending.specs.Families.{IsLeastOf, is_of_containment}
use Rattle.rf_prop_contain.specs.Kinds.{first_of_all}
use Rattle.rf_prop_contain.proofs.FirstLemmas.{least-from_first}
use Rattle.rf_prop_contain.proofs.propagate.least.Goals as goal

pub returns-clause-least : goal.returns-clause-least
returns-clause-least g c =
    let p = g.F.Facts.problem c.args.view.now in
    let s = g.F.Facts.state c.args.view.now in
    IfOk-weaker c.first_of_all.result (λ rule. rule ≡ first_of_all p s) (IsLeastOf is_of_containment p s)
    (λ rule e. least-from_first p s rule (sym e)) c.first_of_all.ensures.least
