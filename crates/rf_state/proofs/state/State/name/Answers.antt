use Rattle.std.proofs.Common.{◌≡◌, ◌∙◌, ℕ, Vec, ap, arith, subst, vec_len}
use Rattle.std.specs.declared.alloc.Global.{Global}
use Rattle.std.proofs.lemmas.Option.{same_Some}
use Rattle.rf_values.specs.declared.truth.Truth.TheVariants.{Unknown}
use Rattle.rf_state.specs.NamedEnds.{AreAdded, IsIndex}
use Rattle.rf_state.proofs.IndexLemmas.{IsIndex-grown}
use Rattle.rf_state.proofs.NamedLemmas.{AreAdded-again, AreAdded-more}
use Rattle.rf_state.proofs.state.State.name.Goals as goal

pub name_edge-requires-clause-first : goal.name_edge-requires-clause-first
name_edge-requires-clause-first c = λ x e.
    let index = c.args.self.now.index c.in-Some.named c.in-Some.is in
    let same = same_Some c.args.a x e in
    let many = index.many in
    let numbers = index.numbers in
    let there = c.requires.from in
    omega (arith, same, many, numbers, there)

pub name_edge-requires-clause-second : goal.name_edge-requires-clause-second
name_edge-requires-clause-second c = λ x e.
    let index = c.args.self.now.index c.in-Some.named c.in-Some.is in
    let same = same_Some c.args.b x e in
    let many = index.many in
    let numbers = index.numbers in
    let there = c.requires.to in
    omega (arith, same, many, numbers, there)

pub invariant_of-self : goal.invariant_of-self
invariant_of-self c = record {
  index = λ x e. subst (IsIndex c.args.self.now.problem.now c.args.self.now.objects.items c.args.self.now.added) (same_Some c.name_edge.new.self x e)
      (IsIndex-grown c.args.self.now.problem.now c.args.self.now.objects.items c.args.self.now.added c.in-Some.named c.name_edge.new.self
      (ap (λ (v : Vec ℕ Global). vec_len v) c.name_edge.ensures.numbers) c.name_edge.ensures.grown (c.args.self.now.index c.in-Some.named c.in-Some.is));
  fit = c.args.self.now.fit;
}

pub returns-in_ok-name_edge-clause-named : goal.returns-in_ok-name_edge-clause-named
returns-in_ok-name_edge-clause-named c = λ x e after same. subst (AreAdded c.args.self.now.problem.now after) (same_Some c.name_edge.new.self x e)
    (AreAdded-more c.args.self.now.problem.now c.args.self.now.added after c.args.r c.args.a c.args.b same c.in-Some.named c.name_edge.new.self
    c.in_ok-name_edge.ensures.named (c.args.self.now.index c.in-Some.named c.in-Some.is).added_too)

pub returns-else-eq-clause-named : goal.returns-else-eq-clause-named
returns-else-eq-clause-named c = λ x e after same.
    AreAdded-again c.args.self.now.problem.now c.args.self.now.added after c.args.r c.args.a c.args.b same x
    (λ none. (let is : c.args.before ≡ Unknown = c.requires.before ∙ none in let h = rw is at c.if-eq.ensures in cc)) (c.args.self.now.index x e).added_too
