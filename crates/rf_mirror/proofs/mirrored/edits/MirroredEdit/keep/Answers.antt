use Rattle.std.proofs.Common.{◌∙◌, ap, length, sym}
use Rattle.rf_state.specs.State.{State, kept_to}
use Rattle.rf_state.proofs.EditLemmas.{keeping}
use Rattle.rf_trail.specs.Trail.{items, kept}
use Rattle.rf_mirror.specs.Meaning.{current, kept as kept_states}
use Rattle.rf_mirror.proofs.ListLemmas.{fewer-mirrors, same-have}
use Rattle.rf_mirror.proofs.MirrorLemmas.{kept-mirror, kept-objects, moved, moved-all}
use Rattle.rf_mirror.proofs.mirrored.edits.MirroredEdit.keep.Goals as goal

pub invariant_of-self-2 : goal.invariant_of-self-2
invariant_of-self-2 c =
    let m = c.args.self.now in
    let p = m.inner.problem.now in
    let s = current m in
    let problem = c.in_ok-keep.ensures.problem in
    let next = c.in_ok-keep.ensures.narrowed in
    let law = keeping p s c.args.o c.args.set c.requires in
    let objects = kept-objects s c.args.o c.args.set c.object-object.result c.both.result (items c.renew.new.objects) c.object-object.ensures.object c.both.ensures.classes (c.renew.ensures.right s m.mirror.first) in
    record {
      many = m.many ∙ sym law.same.many ∙ ap (λ (t : State). length t.objects) (sym next);
      mirror = moved p _ (kept_to s c.args.o c.args.set) _ (items c.renew.new.objects) (items m.cells) problem next
          (kept-mirror p s c.args.o c.args.set (items m.objects) (items c.renew.new.objects) (items m.cells) c.requires m.mirror objects);
      mirrors = moved-all p _ (kept_states m) _ (kept c.renew.new.objects) (kept m.cells) problem c.in_ok-keep.ensures.kept
          (fewer-mirrors p (kept_states m) (kept m.objects) (kept c.renew.new.objects) (kept m.cells) (kept m.cells)
          c.renew.ensures.kept (same-have (kept m.cells)) m.mirrors);
    }
