use Rattle.rf_satisfy.proofs.EdgeEndLemmas.{ends_from-nodes}
use Rattle.rf_satisfy.proofs.index.graph_index.GraphIndex.ends_from.Goals as goal

pub returns-clause-nodes : goal.returns-clause-nodes
returns-clause-nodes c = rw (← c.self.view_is) (ends_from-nodes _ _ c.args.r c.args.x c.ends_from.result.now c.self.invariant.fits c.ends_from.ensures)
