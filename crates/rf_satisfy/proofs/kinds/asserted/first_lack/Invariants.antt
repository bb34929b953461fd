use Rattle.std.proofs.Common.{take}
use Rattle.std.specs.List.{list_any}
use Rattle.rf_problem.specs.Parts.{arity_of}
use Rattle.rf_graph.specs.Graph.{size_of}
use Rattle.rf_evaluate.specs.Kept.{AreKept}
use Rattle.rf_satisfy.specs.GraphKnown.{graph_known}
use Rattle.rf_satisfy.specs.Suspects.{assertion_at, is_lack_by}
use Rattle.rf_satisfy.specs.Tuples.{IsFirst}
use Rattle.rf_satisfy.proofs.kinds.asserted.first_lack.Given as goal

abbrev pub invariant-loop-number : goal.invariant-loop-number
invariant-loop-number l = record {
  kept : AreKept (graph_known l.index.problem l.index.graph) l.closures;
  first : IsFirst (size_of l.index.graph) (arity_of l.index.problem.predicates l.symbol)
      (λ t. list_any (λ k. is_lack_by l.index.problem l.index.graph l.symbol t (assertion_at l.index.problem l.symbol k)) (take l.number-index l.numbers)) l.first;
}
