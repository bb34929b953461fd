use Rattle.std.proofs.Common.{◌∙◌, subst, sym}
use Rattle.rf_state.specs.State.{fresh_of}
use Rattle.rf_trail.specs.Trail.{HaveNoMore, items, kept}
use Rattle.rf_mirror.specs.Meaning.{current, kept as kept_states}
use Rattle.rf_mirror.proofs.ListLemmas.{fewer-mirrors, same-have}
use Rattle.rf_mirror.proofs.MirrorLemmas.{fresh-mirror, moved, moved-all}
use Rattle.rf_mirror.proofs.mirrored.edits.MirroredEdit.fresh.Goals as goal

pub invariant_of-self-2 : goal.invariant_of-self-2
invariant_of-self-2 c =
    let m = c.args.self.now in
    let p = m.inner.problem.now in
    let s = current m in
    let problem = c.in_ok-number.ensures.problem in
    record {
      many = c.objects-self.ensures;
      mirror = moved p _ (fresh_of s c.args.o) _ (items c.add.new.objects) (items c.add_cells.new.cells) problem c.in_ok-number.ensures.fresh
          (fresh-mirror p c.problem.result.now s c.args.o c.in_ok-number.number c.object-object.result c.less_one.result (items m.objects) (items c.renew.new.objects)
          (items c.add.new.objects) (items m.cells) (items c.add_cells.new.cells) (c.problem.ensures ∙ problem) c.requires.object c.in_ok-number.ensures.number
          c.object-object.ensures.object c.less_one.ensures c.renew.ensures.right c.add.ensures.right c.add_cells.ensures.told m.mirror);
      mirrors = moved-all p _ (kept_states m) _ (kept c.add.new.objects) (kept c.add_cells.new.cells) problem c.in_ok-number.ensures.kept
          (fewer-mirrors p (kept_states m) (kept m.objects) (kept c.add.new.objects) (kept m.cells) (kept c.add_cells.new.cells)
          (subst (HaveNoMore (kept m.objects)) (sym c.add.ensures.kept) c.renew.ensures.kept)
          (subst (HaveNoMore (kept m.cells)) (sym c.add_cells.ensures.kept) (same-have (kept m.cells))) m.mirrors);
    }
