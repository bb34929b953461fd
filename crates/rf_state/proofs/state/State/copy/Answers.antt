use Rattle.std.proofs.Common.{◌≡◌, ◌∙◌, ◌++◌, List, ap, rules, subst, sym}
use Rattle.std.proofs.lemmas.Map.Entries.{entries_from_clone}
use Rattle.rf_state.specs.declared.object.Object.{Object}
use Rattle.rf_state.proofs.IndexLemmas.{IsIndex-same}
use Rattle.rf_state.proofs.FittingObjects.{AreFit}
use Rattle.rf_state.proofs.state.State.copy.Goals as goal

pub invariant_of-result : goal.invariant_of-result
invariant_of-result c =
    let old = c.args.self.now in
    let objects : c.extend_from_slice.new.self.items ≡ old.objects.items =
    c.in_ok-extend_from_slice.ensures.items ∙ ap (λ (l : List Object). l ++ c.deref.result.now) c.in_ok-objects.ensures.items ∙ c.deref.ensures.value in
    let entries : c.in_ok-added.added.entries ≡ old.added.entries =
    entries_from_clone _ _ (λ x y h. search rules) (λ v w h. search rules) old.added.entries c.in_ok-added.added.entries c.in_ok-added.ensures.cases in
    record {
      index = λ x e. IsIndex-same old.problem.now old.objects.items c.extend_from_slice.new.self.items old.added c.in_ok-added.added x objects entries (c.in_ok-named.ensures x e);
      fit = subst (AreFit old.problem.now) (sym objects) old.fit;
    }
