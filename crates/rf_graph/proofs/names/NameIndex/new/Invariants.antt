use Rattle.rf_graph.specs.Names.{IsIndex}
use Rattle.rf_graph.proofs.names.NameIndex.new.Given as goal

abbrev pub invariant-loop-number : goal.invariant-loop-number
invariant-loop-number l = IsIndex l.names l.number l.numbers
