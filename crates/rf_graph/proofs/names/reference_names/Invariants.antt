use Rattle.rf_graph.specs.Document.{reference_name}
use Rattle.rf_graph.specs.Names.{AreNames}
use Rattle.rf_graph.proofs.names.reference_names.Given as goal

abbrev pub invariant-loop-reference : goal.invariant-loop-reference
invariant-loop-reference l = AreNames l.reference (reference_name l.problem) l.names.items
