use Rattle.rf_graph.specs.Document.{class_name}
use Rattle.rf_graph.specs.Names.{AreNames}
use Rattle.rf_graph.proofs.names.class_names.Given as goal

abbrev pub invariant-loop-class : goal.invariant-loop-class
invariant-loop-class l = AreNames l.class (class_name l.problem) l.names.items
