use Rattle.rf_satisfy.specs.Objects.{CountsNodes}
use Rattle.rf_satisfy.proofs.kinds.objects.count_nodes.Given as goal

abbrev pub invariant-loop-node : goal.invariant-loop-node
invariant-loop-node l = CountsNodes l.problem l.graph l.node l.counts l.strange
