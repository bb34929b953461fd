use Rattle.std.proofs.Common.{◌≡◌, ◌<◌, ◌+◌, ◌*◌, ◌==◌, ℕ, false, length}
use Rattle.rf_state.specs.State.{fact}
use Rattle.rf_evaluate.specs.Elements.{element_at}
use Rattle.rf_pending.specs.Rows.{is_marked}
use Rattle.rf_pending.specs.Touching.{stands}
use Rattle.rf_pending.proofs.touching.touch_rows_of.Given as goal

abbrev pub invariant-loop-number : goal.invariant-loop-number
invariant-loop-number g l = record {
  size : length l.marks.rows.items ≡ length l.fn.marks.rows.items;
  kept : (k : ℕ) → k < length l.marks.rows.items → is_marked l.marks k ≡ false → is_marked l.fn.marks k ≡ false;
  own : (a : ℕ) → l.r * length (g.F.Facts.state l.view).objects + a < length l.marks.rows.items
      → is_marked l.marks (l.r * length (g.F.Facts.state l.view).objects + a) ≡ false → (l.o == a) ≡ false;
  listed : (i : ℕ) → i < l.number
      → l.r * length (g.F.Facts.state l.view).objects + element_at l.ends i < length l.marks.rows.items
      → is_marked l.marks (l.r * length (g.F.Facts.state l.view).objects + element_at l.ends i) ≡ false
      → stands l.standing (fact (g.F.Facts.problem l.view) (g.F.Facts.state l.view) l.r (element_at l.ends i) l.o) ≡ false;
}
