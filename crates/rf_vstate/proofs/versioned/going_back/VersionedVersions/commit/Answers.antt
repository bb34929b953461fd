use Rattle.std.proofs.Common.{◌∙◌, ℕ, ◌++◌, ◌∷◌, [], if◌then◌else◌, ap, ap₂}
use Rattle.std.specs.Result.{is_ok}
use Rattle.rf_state.proofs.ListLemmas.{on_err-always}
use Rattle.rf_vstate.specs.Maps.{states_at}
use Rattle.rf_vstate.proofs.VersionLemmas.{AreKept-tried, covers-push, states_at-covers, states_at-more}
use Rattle.rf_vstate.proofs.versioned.going_back.VersionedVersions.commit.Goals as goal

pub invariant_of-self-2 : goal.invariant_of-self-2
invariant_of-self-2 c =
    let old = c.args.self.now in
    let items = c.push.ensures.items ∙ ap (λ (place : ℕ). if is_ok c.push.result then old.places.items ++ place ∷ [] else old.places.items) c.in_ok-place.ensures.place in
    record {
      sound = rw c.commit.ensures.current old.sound;
      versions = rw c.in_ok-place.ensures.saved (AreKept-tried old.problem.now old.store.saved old.places.items c.push.new.self.items _ (is_ok c.push.result) old.versions old.sound items);
    }

pub returns-in_err-push-clause-unchanged : goal.returns-in_err-push-clause-unchanged
returns-in_err-push-clause-unchanged c =
    let old = c.args.self.now in
    on_err-always c.from_residual-in_err-push.result
    (ap₂ states_at c.in_ok-place.ensures.saved c.in_err-push.ensures.items
    ∙ states_at-covers old.problem.now old.store.saved _ old.places.items (covers-push old.store.saved _) old.versions)

pub returns-clause-kept : goal.returns-clause-kept
returns-clause-kept c =
    let old = c.args.self.now in
    ap₂ states_at c.in_ok-place.ensures.saved
    (c.in_ok-push.ensures.items ∙ ap (λ (place : ℕ). old.places.items ++ place ∷ []) c.in_ok-place.ensures.place)
    ∙ states_at-more old.problem.now old.store.saved old.places.items _ old.versions old.sound
