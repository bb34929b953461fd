use Rattle.rf_satisfy.proofs.EdgeEndLemmas.{ends_into-nodes}
use Rattle.rf_satisfy.proofs.index.graph_index.GraphIndex.ends_into.Goals as goal

pub returns-clause-nodes : goal.returns-clause-nodes
returns-clause-nodes c = rw (← c.self.view_is) (ends_into-nodes _ _ c.args.r c.args.y c.ends_into.result.now c.self.invariant.fits c.ends_into.ensures)
