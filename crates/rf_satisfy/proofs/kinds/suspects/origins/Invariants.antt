use Rattle.std.proofs.Common.{◌≡◌, map, take}
use Rattle.rf_graph.specs.Graph.{origin_of}
use Rattle.rf_satisfy.proofs.kinds.suspects.origins.Given as goal

abbrev pub invariant-loop-x : goal.invariant-loop-x
invariant-loop-x l = l.objects ≡ map (origin_of l.index.graph) (take l.x-index l.tuple)
