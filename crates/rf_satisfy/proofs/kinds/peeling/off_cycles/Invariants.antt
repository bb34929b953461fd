use Rattle.rf_satisfy.specs.Peeling.{AreAllPeeled, IsPeeling}
use Rattle.rf_satisfy.proofs.kinds.peeling.off_cycles.Given as goal

abbrev pub invariant-loop-start : goal.invariant-loop-start
invariant-loop-start l = record {
  peeling : IsPeeling l.containers l.contents.items l.peeled.items;
  all : AreAllPeeled l.contents.items l.peeled.items l.start;
}
