use Rattle.std.proofs.Common.{◌≡◌, ◌<◌, ℕ, true, false, length, slice_index_or}
use Rattle.rf_pending.proofs.marks.Marks.touch_all.Given as goal

abbrev pub invariant-loop-k : goal.invariant-loop-k
invariant-loop-k l = record {
  size : length l.self.rows.items ≡ length l.fn.self.rows.items;
  set : (j : ℕ) → j < l.k → slice_index_or l.self.rows.items j false ≡ true;
}
