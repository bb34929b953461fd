use Rattle.std.proofs.Common.{◌∙◌, ap, length, sym}
use Rattle.rf_state.specs.State.{State, merged_at}
use Rattle.rf_trail.specs.Trail.{items, kept}
use Rattle.rf_mirror.specs.Meaning.{current, kept as kept_states}
use Rattle.rf_mirror.proofs.ListLemmas.{fewer-mirrors, same-have}
use Rattle.rf_mirror.proofs.MirrorLemmas.{merged-mirror, moved, moved-all}
use Rattle.rf_mirror.proofs.mirrored.edits.MirroredEdit.merge.Goals as goal

pub invariant_of-self-2 : goal.invariant_of-self-2
invariant_of-self-2 c =
    let m = c.args.self.now in
    let p = m.inner.problem.now in
    let s = current m in
    let problem = c.in_ok-merge.ensures.problem in
    let merged = c.in_ok-merge.ensures.merged in
    let told = rw (c.problem.ensures, problem) at c.merge_at.ensures.told in
    record {
      many = m.many ∙ ap (λ (t : State). length t.objects) (sym merged);
      mirror = moved p _ (merged_at s c.args.r c.args.a c.args.b c.args.v) _ (items m.objects) (items c.merge_at.new.cells) problem merged
          (merged-mirror p s (items m.objects) (items m.cells) (items c.merge_at.new.cells) c.args.r c.args.a c.args.b c.args.v m.mirror
          (told s m.mirror.known c.requires.from c.requires.to));
      mirrors = moved-all p _ (kept_states m) _ (kept m.objects) (kept c.merge_at.new.cells) problem c.in_ok-merge.ensures.kept
          (fewer-mirrors p (kept_states m) (kept m.objects) (kept m.objects) (kept m.cells) (kept c.merge_at.new.cells)
          (same-have (kept m.objects)) c.merge_at.ensures.kept m.mirrors);
    }
