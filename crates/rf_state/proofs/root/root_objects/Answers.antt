use Rattle.std.proofs.Common.{◌+◌, subst, sym, refl}
use Rattle.rf_state.specs.Root.{AreRootObjects}
use Rattle.rf_state.proofs.Roots.{AreRootObjects-more}
use Rattle.rf_state.proofs.root.root_objects.Goals as goal

pub loop-o-preserved : goal.loop-o-preserved
loop-o-preserved c = subst (AreRootObjects c.args.problem.now (c.loop-o.o + 1)) (sym c.in_ok-push.ensures.items)
    (AreRootObjects-more c.args.problem.now c.loop-o.o c.loop-o.objects.items _ c.loop-o.invariant
    (record { origin = refl; count = c.admitted.ensures; candidates = c.candidates.ensures }))
