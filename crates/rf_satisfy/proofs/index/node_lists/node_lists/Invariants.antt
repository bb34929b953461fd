use Rattle.rf_satisfy.specs.NodeLists.{AreLists}
use Rattle.rf_satisfy.proofs.index.node_lists.node_lists.Given as goal

abbrev pub invariant-loop-x : goal.invariant-loop-x
invariant-loop-x l = AreLists l.x l.graph l.objects l.all.items l.rows.items
