use Rattle.std.proofs.Common.{subst}
use Rattle.rf_pending.specs.Changes.{IsChange}
use Rattle.rf_pending.specs.declared.change.Change.{Change}
use Rattle.rf_prop_scope.proofs.LocalLemmas.{merged}
use Rattle.rf_prop_scope.proofs.touching.touch.Goals as goal

pub returns-in-Fact : goal.returns-in-Fact
returns-in-Fact c = λ p s t is covers.
    let h = subst (λ (change : Change). IsChange change s t) c.in-Fact.is is in
    merged p s t c.in-Fact.field-0 c.in-Fact.field-1 c.in-Fact.field-2 h.0 c.args.pending.now h.1 covers
