use Rattle.rf_state.specs.Root.{AreRootObjects}
use Rattle.rf_state.proofs.root.root_objects.Given as goal

abbrev pub invariant-loop-o : goal.invariant-loop-o
invariant-loop-o l = AreRootObjects l.problem l.o l.objects.items
