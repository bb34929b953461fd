use Rattle.std.proofs.Common.{◌≡◌, ◌∙◌, ◌<◌, ℕ, subst, sym}
use Rattle.rf_values.specs.declared.truth.Truth.TheVariants.{False}
use Rattle.rf_evaluate.specs.Elements.{AreBelow}
use Rattle.rf_state.specs.NamedEnds.{asserted_both}
use Rattle.rf_state.proofs.EndLemmas.{fact-unlisted_into}
use Rattle.rf_state.proofs.state.reads.StateFacts.ends_into.Goals as goal

pub returns-in-Some-clause-complete : goal.returns-in-Some-clause-complete
returns-in-Some-clause-complete c = λ a l off.
    let index = c.args.self.now.index c.in-Some.named c.in-Some.is in
    let within = subst (λ (n : ℕ). a < n) (index.many ∙ sym index.numbers) l in
    fact-unlisted_into c.args.self.now.problem.now c.args.self.now.objects.items c.args.self.now.added c.in-Some.named index c.args.r a c.args.b l c.requires.to
    (c.into.ensures.listed a within off) (c.into.ensures.alone a within off)
    (subst (λ (n : ℕ). asserted_both c.args.self.now.problem.now c.args.r n c.args.b ≡ False) index.numbers (c.into.ensures.denied a within off))

pub returns-in-Some-clause-below : goal.returns-in-Some-clause-below
returns-in-Some-clause-below c =
    let index = c.args.self.now.index c.in-Some.named c.in-Some.is in
    subst (λ (n : ℕ). AreBelow n c.into.result) (index.numbers ∙ sym index.many) c.into.ensures.below
