use Rattle.std.proofs.Common.{◌+◌, take}
use Rattle.rf_trail.specs.Trail.{items, kept}
use Rattle.rf_vstate.specs.Meaning.{current as current_of}
use Rattle.rf_mirror.specs.Meaning.{kept as kept_states}
use Rattle.rf_mirror.proofs.ListLemmas.{first-mirrors}
use Rattle.rf_mirror.proofs.MirrorLemmas.{mirror-at, moved-all, renamed}
use Rattle.rf_mirror.proofs.mirrored.going_back.MirroredVersions.prune.Goals as goal

pub invariant_of-self : goal.invariant_of-self
invariant_of-self c =
    let m = c.args.self.now in
    let p = m.inner.problem.now in
    let v = c.args.v in
    record {
      many = c.objects-self.ensures;
      mirror = renamed p _ _ _ _ c.prune.ensures.problem
          (mirror-at p (kept_states m) (kept m.objects) (kept m.cells) v (current_of c.prune.new.self) (items c.prune-2.new.self) (items c.prune-3.new.self)
          m.mirrors c.requires c.prune.ensures.state c.prune-2.ensures.items c.prune-3.ensures.items);
      mirrors = rw (c.prune-2.ensures.kept, c.prune-3.ensures.kept) (moved-all p _ (take (v + 1) (kept_states m)) _ (take (v + 1) (kept m.objects)) (take (v + 1) (kept m.cells))
          c.prune.ensures.problem c.prune.ensures.kept
          (first-mirrors p (kept_states m) (kept m.objects) (kept m.cells) (v + 1) m.mirrors));
    }
