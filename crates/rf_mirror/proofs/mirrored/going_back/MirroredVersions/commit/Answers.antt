use Rattle.std.proofs.Common.{◌∙◌, ◌∷◌, ◌++◌, [], ap, length, sym}
use Rattle.rf_state.specs.State.{State}
use Rattle.rf_trail.specs.Trail.{items, kept}
use Rattle.rf_mirror.specs.Meaning.{current, kept as kept_states}
use Rattle.rf_mirror.proofs.ListLemmas.{more-mirrors}
use Rattle.rf_mirror.proofs.MirrorLemmas.{moved, moved-all}
use Rattle.rf_mirror.proofs.mirrored.going_back.MirroredVersions.commit.Goals as goal

pub invariant_of-self-in-Ok-1 : goal.invariant_of-self-in-Ok-1
invariant_of-self-in-Ok-1 c =
    let m = c.args.self.now in
    let p = m.inner.problem.now in
    let s = current m in
    let e = c.in_ok-commit_both.ensures in
    record {
      many = m.many ∙ ap (λ (t : State). length t.objects) (sym c.in-Ok.ensures.state);
      mirror = rw (e.items, e.other_items) (moved p _ s _ (items m.objects) (items m.cells) c.in-Ok.ensures.problem c.in-Ok.ensures.state m.mirror);
      mirrors = rw (e.kept, e.other_kept) (moved-all p _ (kept_states m ++ s ∷ []) _ (kept m.objects ++ items m.objects ∷ []) (kept m.cells ++ items m.cells ∷ [])
          c.in-Ok.ensures.problem c.in-Ok.ensures.kept
          (more-mirrors p (kept_states m) (kept m.objects) (kept m.cells) s (items m.objects) (items m.cells) m.mirrors m.mirror));
    }
