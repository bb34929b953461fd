use Rattle.rf_final.proofs.Pieces.{single-there}
use Rattle.rf_final.proofs.graph.nodes.Goals as goal

pub node_of-requires : goal.node_of-requires
node_of-requires g c = single-there (g.F.Facts.state c.args.view.now) c.args.objects.now c.loop-o.o-index c.requires c.loop-o-test.true
