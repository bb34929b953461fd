use Rattle.rf_graph.specs.Graph.{size_of}
use Rattle.rf_evaluate.specs.Kept.{AreKept}
use Rattle.rf_satisfy.specs.GraphKnown.{graph_known}
use Rattle.rf_satisfy.specs.Suspects.{is_stray_among}
use Rattle.rf_satisfy.specs.Tuples.{IsFirst}
use Rattle.rf_satisfy.proofs.kinds.asserted.first_literal.Given as goal

abbrev pub invariant-loop-object : goal.invariant-loop-object
invariant-loop-object l = record {
  kept : AreKept (graph_known l.index.problem l.index.graph) l.closures;
  first : IsFirst (size_of l.index.graph) 1 (is_stray_among l.index.problem l.index.graph l.class l.object) l.first;
}
