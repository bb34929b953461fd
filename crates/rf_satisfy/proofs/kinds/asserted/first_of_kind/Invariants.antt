use Rattle.std.proofs.Common.{◌≡◌, None}
use Rattle.rf_finite.specs.Range.{first_below}
use Rattle.rf_graph.specs.First.{first_broken}
use Rattle.rf_evaluate.specs.Kept.{AreKept}
use Rattle.rf_satisfy.specs.GraphKnown.{graph_known}
use Rattle.rf_satisfy.specs.SymbolKinds.{symbol_of}
use Rattle.rf_satisfy.proofs.kinds.asserted.first_of_kind.Given as goal

abbrev pub invariant-loop-number : goal.invariant-loop-number
invariant-loop-number l = record {
  kept : AreKept (graph_known l.index.problem l.index.graph) l.closures;
  none : first_below l.number (λ k. first_broken l.index.problem l.index.graph (symbol_of l.kind k)) ≡ None;
}
