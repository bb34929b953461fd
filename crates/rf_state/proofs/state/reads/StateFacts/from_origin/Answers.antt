use Rattle.std.proofs.Common.{◌≡◌, ◌∙◌, ◌<◌, ℕ, true, subst, sym, vec_len}
use Rattle.rf_evaluate.specs.Elements.{AreBelow, includes}
use Rattle.rf_state.proofs.state.reads.StateFacts.from_origin.Goals as goal

pub returns-in-Some-clause-complete : goal.returns-in-Some-clause-complete
returns-in-Some-clause-complete c = λ o l origin.
    let index = c.args.self.now.index c.in-Some.named c.in-Some.is in
    let same = sym (index.origins o l) ∙ origin in
    subst (λ (n : ℕ). includes c.object.result n ≡ true) (sym same)
    (c.object.ensures.complete (subst (λ (n : ℕ). n < vec_len c.in-Some.named.numbers) same (subst (λ (n : ℕ). o < n) (index.many ∙ sym index.numbers) l)))

pub returns-in-Some-clause-below : goal.returns-in-Some-clause-below
returns-in-Some-clause-below c =
    let index = c.args.self.now.index c.in-Some.named c.in-Some.is in
    subst (λ (n : ℕ). AreBelow n c.object.result) (index.numbers ∙ sym index.many) c.object.ensures.below
