use Rattle.std.proofs.Common.{subst}
use Rattle.std.proofs.lemmas.Option.{same_Some}
use Rattle.rf_state.specs.NamedEnds.{IsIndex}
use Rattle.rf_state.proofs.IndexLemmas.{IsIndex-grown}
use Rattle.rf_state.proofs.NamedLemmas.{IsGrown-same}
use Rattle.rf_state.proofs.state.State.copy_named.Goals as goal

pub returns-in_ok-copy-in-Some : goal.returns-in_ok-copy-in-Some
returns-in_ok-copy-in-Some c = λ x e.
    let old = c.in-Some.named in
    let new = c.in_ok-copy-in-Some.field-0 in
    subst (IsIndex c.args.self.now.problem.now c.args.self.now.objects.items c.args.self.now.added) (same_Some new x e)
    (IsIndex-grown c.args.self.now.problem.now c.args.self.now.objects.items c.args.self.now.added old new c.in_ok-copy-in-Some.ensures.numbers
    (IsGrown-same old new c.in_ok-copy-in-Some.ensures.from c.in_ok-copy-in-Some.ensures.into) (c.args.self.now.index old c.in-Some.is))
