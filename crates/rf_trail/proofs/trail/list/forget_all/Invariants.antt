use Rattle.std.proofs.Common.{◌≡◌, ◌<◌, ℕ, length}
use Rattle.rf_trail.specs.Marks.{mark_at, no_mark}
use Rattle.rf_trail.proofs.trail.list.forget_all.Given as goal

abbrev pub invariant-loop-i : goal.invariant-loop-i
invariant-loop-i l = record {
  many : length l.marks.items ≡ length l.initial.marks.items;
  none : (j : ℕ) → j < l.i → mark_at l.marks.items j ≡ no_mark;
}
