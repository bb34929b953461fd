use Rattle.std.proofs.Common.{◌≡◌, ◌<◌, ◌+◌, ◌*◌, ℕ, true, false, length}
use Rattle.rf_pending.specs.Rows.{is_marked}
use Rattle.rf_prop_mult.proofs.candidates.touch_reference.Given as goal

abbrev pub invariant-loop-a : goal.invariant-loop-a
invariant-loop-a l = record {
  size : length l.marks.rows.items ≡ length l.fn.marks.rows.items;
  kept : (k : ℕ) → k < length l.marks.rows.items → is_marked l.marks k ≡ false → is_marked l.fn.marks k ≡ false;
  marked : (x : ℕ) → x < l.a → l.r * l.objects + x < length l.marks.rows.items → is_marked l.marks (l.r * l.objects + x) ≡ true;
}
