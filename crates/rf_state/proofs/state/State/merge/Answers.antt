use Rattle.std.proofs.Common.{◌∙◌, Some, Vec, ap, subst, sym}
use Rattle.std.specs.declared.alloc.Global.{Global}
use Rattle.rf_values.specs.Truth.{merge}
use Rattle.rf_problem.specs.declared.problem.Problem.{Problem}
use Rattle.rf_state.specs.Added.{Added}
use Rattle.rf_state.specs.NamedEnds.{AreAdded, AreSameBut}
use Rattle.rf_state.specs.declared.object.Object.{Object}
use Rattle.rf_state.proofs.IndexLemmas.{AreSameBut-insert, IsIndex-added}
use Rattle.rf_state.proofs.Keys.{IsPut, added_at-merged}
use Rattle.rf_state.proofs.state.State.merge.Goals as goal

pub invariant_of-self : goal.invariant_of-self
invariant_of-self c =
    let named = c.name.new.self in
    let same : AreSameBut c.args.r c.args.a c.args.b named.added c.insert.new.self =
    AreSameBut-insert c.insert.result named.added c.insert.new.self c.args.r c.args.a c.args.b c.merge-after.result (λ updates. updates.0) c.insert.ensures.updates c.insert.ensures.err in
    record {
      index = λ x e. IsIndex-added named.problem.now named.objects.items named.added c.insert.new.self x
          (subst (λ (p : Problem). AreAdded p c.insert.new.self x) (sym c.in_ok-name.ensures.problem)
          (c.in_ok-name.ensures.named x e c.insert.new.self
          (subst (λ (m : Added). AreSameBut c.args.r c.args.a c.args.b m c.insert.new.self) c.in_ok-name.ensures.added same)))
          (named.index x e);
      fit = named.fit;
    }

pub returns-in_ok-insert-clause-merged : goal.returns-in_ok-insert-clause-merged
returns-in_ok-insert-clause-merged c =
    let old = c.args.self.now in
    let put : IsPut old.added c.args.r c.args.a c.args.b (Some c.merge-after.result) c.insert.new.self =
    subst (λ (m : Added). IsPut m c.args.r c.args.a c.args.b (Some c.merge-after.result) c.insert.new.self) c.in_ok-name.ensures.added c.in_ok-insert.ensures.updates.0 in
    λ i. record {
      objects = ap (λ (v : Vec Object Global). v.items) c.in_ok-name.ensures.objects i;
      added = λ q x y. added_at-merged old.added c.insert.new.self c.args.r c.args.a c.args.b c.args.v c.merge-after.result
          (c.merge-after.ensures ∙ ap (λ t. merge t c.args.v) c.added_at-before.ensures) put q x y i;
    }
