use Rattle.std.proofs.Common.{◌∙◌, List, ap, sym, subst}
use Rattle.rf_store.specs.Contents.{Version}
use Rattle.rf_store.specs.Entries.{Entry}
use Rattle.rf_vstate.specs.Maps.{state_of, states_at}
use Rattle.rf_vstate.specs.Rows.{AreKept, IsSound}
use Rattle.rf_vstate.proofs.VersionLemmas.{AreKept-covers, covers-push, refused-current, refused-saved, states_at-covers}
use Rattle.rf_vstate.proofs.versioned.edits.VersionedEdit.fresh.Goals as goal

pub invariant_of-self-in-Err : goal.invariant_of-self-in-Err
invariant_of-self-in-Err c =
    let old = c.args.self.now in
    let saved = c.make_fresh.ensures.saved ∙ c.in_ok-before.ensures.saved in
    let at = c.in_ok-before.ensures.place in
    record {
      sound = subst (λ (entries : List Entry). IsSound old.problem.now entries)
          (sym (refused-current old.store.saved _ _ c.in_ok-before.before saved at c.prune.new.self.current c.prune.ensures.current)) old.sound;
      versions = subst (λ (versions : List Version). AreKept old.problem.now versions old.places.items)
          (sym (c.prune.ensures.saved ∙ refused-saved old.store.saved _ _ c.in_ok-before.before saved at))
          (AreKept-covers old.problem.now old.store.saved _ old.places.items (covers-push old.store.saved _) old.versions);
    }

pub returns-in-Ok-clause-kept : goal.returns-in-Ok-clause-kept
returns-in-Ok-clause-kept c =
    let old = c.args.self.now in
    ap (λ (versions : List Version). states_at versions old.places.items) (c.make_fresh.ensures.saved ∙ c.in_ok-before.ensures.saved)
    ∙ states_at-covers old.problem.now old.store.saved _ old.places.items (covers-push old.store.saved _) old.versions

pub returns-in-Err-clause-kept : goal.returns-in-Err-clause-kept
returns-in-Err-clause-kept c =
    let old = c.args.self.now in
    let saved = c.make_fresh.ensures.saved ∙ c.in_ok-before.ensures.saved in
    ap (λ (versions : List Version). states_at versions old.places.items)
    (c.prune.ensures.saved ∙ refused-saved old.store.saved _ _ c.in_ok-before.before saved c.in_ok-before.ensures.place)
    ∙ states_at-covers old.problem.now old.store.saved _ old.places.items (covers-push old.store.saved _) old.versions

pub returns-in-Err-clause-unchanged : goal.returns-in-Err-clause-unchanged
returns-in-Err-clause-unchanged c =
    let old = c.args.self.now in
    let saved = c.make_fresh.ensures.saved ∙ c.in_ok-before.ensures.saved in
    ap state_of (refused-current old.store.saved _ _ c.in_ok-before.before saved c.in_ok-before.ensures.place c.prune.new.self.current c.prune.ensures.current)
