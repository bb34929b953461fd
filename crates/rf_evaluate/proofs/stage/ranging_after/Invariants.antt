use Rattle.std.proofs.Common.{◌≤◌, ◌&&◌, nat_le, nat_lt, false, None, length, slice_index_or}
use Rattle.rf_problem.specs.Valid.{is_free}
use Rattle.rf_evaluate.proofs.Cells.{AreFilled}
use Rattle.rf_evaluate.proofs.stage.ranging_after.Given as goal

abbrev pub invariant-loop-v : goal.invariant-loop-v
invariant-loop-v l = record {
  filled : AreFilled false 8 (λ k. false) (λ k. nat_le l.arity k && (nat_lt k (length l.variables) && is_free (slice_index_or l.variables k None))) l.unassigned l.v;
  from : l.arity ≤ l.v;
}
