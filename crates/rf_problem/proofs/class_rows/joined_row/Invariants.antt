use Rattle.std.proofs.Common.{◌≡◌, ◌||◌, ℕ, take}
use Rattle.std.specs.FinSet.{contains}
use Rattle.std.specs.List.{list_any}
use Rattle.rf_problem.specs.Above.{row}
use Rattle.rf_problem.proofs.class_rows.joined_row.Given as goal

abbrev pub invariant-loop-super_class : goal.invariant-loop-super_class
invariant-loop-super_class l =
    (d : ℕ) → contains l.joined d ≡
    (contains (row l.rows l.class) d || list_any (λ s. contains (row l.rows s) d) (take l.super_class-index l.super_class-items))
