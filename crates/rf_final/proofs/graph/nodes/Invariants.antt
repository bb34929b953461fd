use Rattle.std.proofs.Common.{◌≡◌, map, take}
use Rattle.rf_final.specs.GraphOf.{node_of}
use Rattle.rf_final.proofs.graph.nodes.Given as goal

abbrev pub invariant-loop-o : goal.invariant-loop-o
invariant-loop-o g l = l.nodes.items ≡ map (node_of (g.F.Facts.problem l.view) (g.F.Facts.state l.view)) (take l.o-index l.objects)
