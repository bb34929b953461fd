use Rattle.std.proofs.Common.{◌≡◌, ◌∙◌, ◌<◌, ℕ, subst, sym}
use Rattle.rf_values.specs.declared.truth.Truth.TheVariants.{False}
use Rattle.rf_evaluate.specs.Elements.{AreBelow}
use Rattle.rf_state.specs.NamedEnds.{asserted_both}
use Rattle.rf_state.proofs.EndLemmas.{fact-unlisted_from}
use Rattle.rf_state.proofs.state.reads.StateFacts.ends_from.Goals as goal

pub returns-in-Some-clause-complete : goal.returns-in-Some-clause-complete
returns-in-Some-clause-complete c = λ b l off.
    let index = c.args.self.now.index c.in-Some.named c.in-Some.is in
    let within = subst (λ (n : ℕ). b < n) (index.many ∙ sym index.numbers) l in
    fact-unlisted_from c.args.self.now.problem.now c.args.self.now.objects.items c.args.self.now.added c.in-Some.named index c.args.r c.args.a b c.requires.from l
    (c.from.ensures.listed b within off) (c.from.ensures.alone b within off)
    (subst (λ (n : ℕ). asserted_both c.args.self.now.problem.now c.args.r c.args.a n ≡ False) index.numbers (c.from.ensures.denied b within off))

pub returns-in-Some-clause-below : goal.returns-in-Some-clause-below
returns-in-Some-clause-below c =
    let index = c.args.self.now.index c.in-Some.named c.in-Some.is in
    subst (λ (n : ℕ). AreBelow n c.from.result) (index.numbers ∙ sym index.many) c.from.ensures.below
