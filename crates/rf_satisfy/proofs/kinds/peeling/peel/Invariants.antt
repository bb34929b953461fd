use Rattle.std.proofs.Common.{◌<◌, ◌+◌, not, length}
use Rattle.std.specs.Prelude.{count_by}
use Rattle.rf_satisfy.specs.Peeling.{AreOthersPeeled, IsPeeling}
use Rattle.rf_satisfy.proofs.kinds.peeling.peel.Given as goal

abbrev pub invariant-loop-peeled : goal.invariant-loop-peeled
invariant-loop-peeled l = record {
  node : l.z < length l.containers;
  peeling : IsPeeling l.containers l.contents l.peeled;
  others : AreOthersPeeled l.contents l.peeled (l.start + 1) l.z;
}

abbrev pub decreases-loop-peeled : goal.decreases-loop-peeled
decreases-loop-peeled l = count_by not l.peeled
