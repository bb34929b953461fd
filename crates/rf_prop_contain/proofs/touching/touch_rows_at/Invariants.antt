use Rattle.std.proofs.Common.{◌≡◌, ◌<◌, ◌+◌, ◌*◌, ◌==◌, ℕ, false, length}
use Rattle.rf_pending.specs.Rows.{is_marked}
use Rattle.rf_prop_contain.proofs.touching.touch_rows_at.Given as goal

abbrev pub invariant-loop-reference : goal.invariant-loop-reference
invariant-loop-reference g l = record {
  size : length l.marks.rows.items ≡ length l.fn.marks.rows.items;
  kept : (k : ℕ) → k < length l.marks.rows.items → is_marked l.marks k ≡ false → is_marked l.fn.marks k ≡ false;
  far : (r a : ℕ) → r < l.reference → r * l.objects + a < length l.marks.rows.items
      → is_marked l.marks (r * l.objects + a) ≡ false → (l.o == a) ≡ false;
}
