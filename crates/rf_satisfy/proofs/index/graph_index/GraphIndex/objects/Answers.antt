use Rattle.rf_graph.specs.Graph.{no_node}
use Rattle.rf_satisfy.proofs.index.graph_index.GraphIndex.objects.Goals as goal

pub returns-clause-origins : goal.returns-clause-origins
returns-clause-origins c = rw (← c.self.view_is, c.len.ensures) (λ x l. (c.self.invariant.fits.nodes x no_node l).origin)
