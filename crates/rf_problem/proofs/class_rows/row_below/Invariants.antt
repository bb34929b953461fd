use Rattle.std.proofs.Common.{◌≡◌, ℕ, ◌&&◌}
use Rattle.std.specs.Prelude.{nat_lt}
use Rattle.std.specs.FinSet.{contains}
use Rattle.rf_problem.specs.Above.{row}
use Rattle.rf_problem.proofs.class_rows.row_below.Given as goal

abbrev pub invariant-loop-class : goal.invariant-loop-class
invariant-loop-class l = (c : ℕ) → contains l.below c ≡ (nat_lt c l.class && contains (row l.above c) l.top)
