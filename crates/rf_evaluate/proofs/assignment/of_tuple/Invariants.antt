use Rattle.std.specs.Prelude.{slice_index}
use Rattle.rf_evaluate.proofs.Cells.{AreFilled}
use Rattle.rf_evaluate.proofs.assignment.of_tuple.Given as goal

abbrev pub invariant-loop-i : goal.invariant-loop-i
invariant-loop-i l = AreFilled 0 8 (λ k. 0) (slice_index l.tuple) l.cells l.i
