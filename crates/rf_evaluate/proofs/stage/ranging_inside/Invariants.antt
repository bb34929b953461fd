use Rattle.std.proofs.Common.{false, None, slice_index_or}
use Rattle.rf_problem.specs.Reading.{is_entry}
use Rattle.rf_evaluate.proofs.Cells.{AreFilled}
use Rattle.rf_evaluate.proofs.stage.ranging_inside.Given as goal

abbrev pub invariant-loop-v : goal.invariant-loop-v
invariant-loop-v l = AreFilled false 8 (λ k. false) (λ k. is_entry l.i (slice_index_or l.variables k None)) l.unassigned l.v
