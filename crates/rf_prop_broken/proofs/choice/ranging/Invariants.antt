use Rattle.std.proofs.Common.{◌&&◌, nat_lt, false, None, length, slice_index_or}
use Rattle.rf_problem.specs.Valid.{is_free}
use Rattle.rf_evaluate.proofs.Cells.{AreFilled}
use Rattle.rf_prop_broken.proofs.choice.ranging.Given as goal

abbrev pub invariant-loop-v : goal.invariant-loop-v
invariant-loop-v l = AreFilled false 8 (λ k. false) (λ k. nat_lt k (length l.variables) && is_free (slice_index_or l.variables k None)) l.waiting l.v
