use Rattle.std.proofs.Common.{◌≡◌, ◌<◌, ◌+◌, ◌*◌, ◌==◌, ◌||◌, ℕ, false, length}
use Rattle.rf_state.specs.State.{fact}
use Rattle.rf_pending.specs.Rows.{is_marked}
use Rattle.rf_pending.specs.Touching.{stands}
use Rattle.rf_pending.proofs.touching.touch_count.Given as goal

abbrev pub invariant-loop-reference : goal.invariant-loop-reference
invariant-loop-reference g l = record {
  size : length l.marks.rows.items ≡ length l.fn.marks.rows.items;
  kept : (k : ℕ) → k < length l.marks.rows.items → is_marked l.marks k ≡ false → is_marked l.fn.marks k ≡ false;
  far : (r a : ℕ) → r < l.reference → a < length (g.F.Facts.state l.view).objects
      → r * length (g.F.Facts.state l.view).objects + a < length l.marks.rows.items
      → is_marked l.marks (r * length (g.F.Facts.state l.view).objects + a) ≡ false
      → (l.o == a || stands l.standing (fact (g.F.Facts.problem l.view) (g.F.Facts.state l.view) r a l.o)) ≡ false;
}
