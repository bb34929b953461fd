use Rattle.std.proofs.Common.{◌∙◌, ap, length, sym}
use Rattle.rf_state.specs.State.{State, narrowed}
use Rattle.rf_state.proofs.EditLemmas.{narrowing}
use Rattle.rf_trail.specs.Trail.{items, kept}
use Rattle.rf_mirror.specs.Meaning.{current, kept as kept_states}
use Rattle.rf_mirror.proofs.ListLemmas.{fewer-mirrors, same-have}
use Rattle.rf_mirror.proofs.MirrorLemmas.{narrowed-mirror, narrowed-objects, moved, moved-all}
use Rattle.rf_mirror.proofs.mirrored.edits.MirroredEdit.narrow.Goals as goal

pub invariant_of-self-2 : goal.invariant_of-self-2
invariant_of-self-2 c =
    let m = c.args.self.now in
    let p = m.inner.problem.now in
    let s = current m in
    let problem = c.in_ok-narrow.ensures.problem in
    let next = c.in_ok-narrow.ensures.narrowed in
    let law = narrowing p s c.args.o c.args.count c.requires.object in
    let objects = narrowed-objects s c.args.o c.args.count c.object-object.result c.meet.result (items c.renew.new.objects) c.object-object.ensures.object c.meet.ensures (c.renew.ensures.right s m.mirror.first) in
    record {
      many = m.many ∙ sym law.same.many ∙ ap (λ (t : State). length t.objects) (sym next);
      mirror = moved p _ (narrowed s c.args.o c.args.count) _ (items c.renew.new.objects) (items m.cells) problem next
          (narrowed-mirror p s c.args.o c.args.count (items m.objects) (items c.renew.new.objects) (items m.cells) c.requires.object m.mirror objects);
      mirrors = moved-all p _ (kept_states m) _ (kept c.renew.new.objects) (kept m.cells) problem c.in_ok-narrow.ensures.kept
          (fewer-mirrors p (kept_states m) (kept m.objects) (kept c.renew.new.objects) (kept m.cells) (kept m.cells)
          c.renew.ensures.kept (same-have (kept m.cells)) m.mirrors);
    }
