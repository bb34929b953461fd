use Rattle.std.proofs.Common.{take}
use Rattle.rf_graph.specs.Graph.{size_of}
use Rattle.rf_satisfy.proofs.ContainerLemmas.{AreContainers}
use Rattle.rf_satisfy.proofs.kinds.container_of.containers_of.Given as goal

abbrev pub invariant-loop-edge : goal.invariant-loop-edge
invariant-loop-edge l = AreContainers l.problem (size_of l.graph) (take l.edge-index l.edge-items) l.containers.items
