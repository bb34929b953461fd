use Rattle.rf_graph.specs.Document.{object_name}
use Rattle.rf_graph.specs.Names.{AreNames}
use Rattle.rf_graph.proofs.names.object_names.Given as goal

abbrev pub invariant-loop-object : goal.invariant-loop-object
invariant-loop-object l = AreNames l.object (object_name l.problem) l.names.items
