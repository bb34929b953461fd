use Rattle.rf_satisfy.specs.GraphKnown.{graph_known}
use Rattle.rf_satisfy.proofs.kinds.asserted.first_asserted.Goals as goal

pub first_of_kind-requires : goal.first_of_kind-requires
first_of_kind-requires c = record { kept = c.new-closures.ensures (graph_known c.args.index.now.problem c.args.index.now.graph) }
