use Rattle.std.proofs.Common.{◌≡◌, ◌<◌, ℕ, false, true, length, slice_index_or}
use Rattle.rf_evaluate.proofs.stage.Stage.of_clause.Given as goal

abbrev pub invariant-loop-i : goal.invariant-loop-i
invariant-loop-i l = record { len : length l.pending ≡ 36; marked : (k : ℕ) → k < l.i → slice_index_or l.pending k false ≡ true }
