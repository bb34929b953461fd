use Rattle.std.proofs.Common.{◌≡◌, ℕ, ◌+◌, ◌-◌, ◌<◌, ◌++◌, ◌∷◌, [], None, length, get_or}
use Rattle.rf_graph.specs.Graph.{size_of}
use Rattle.rf_evaluate.specs.Kept.{AreKept}
use Rattle.rf_satisfy.specs.GraphKnown.{graph_known}
use Rattle.rf_satisfy.specs.Suspects.{is_suspect}
use Rattle.rf_satisfy.specs.Tuples.{first_passing}
use Rattle.rf_satisfy.proofs.kinds.suspects.+search.Given as goal

abbrev pub decreases-first_from : goal.decreases-first_from
decreases-first_from l = length l.args.now - length l.prefix

abbrev pub invariant-loop-x : goal.invariant-loop-x
invariant-loop-x l = record {
  kept : AreKept (graph_known l.index.problem l.index.graph) l.closures;
  none : (i : ℕ) → i < l.x-index
      → first_passing (size_of l.index.graph) (length l.args - (length l.prefix + 1)) (l.prefix ++ get_or l.x-items i 0 ∷ []) (is_suspect l.index.problem l.index.graph l.symbol l.args l.value) ≡ None;
}
