use Rattle.std.proofs.Common.{◌≡◌, ℕ, ◌&&◌}
use Rattle.std.specs.Prelude.{nat_lt}
use Rattle.std.specs.FinSet.{contains}
use Rattle.rf_problem.specs.Classes.{is_concrete}
use Rattle.rf_problem.proofs.class_rows.concrete_classes.Given as goal

abbrev pub invariant-loop-class : goal.invariant-loop-class
invariant-loop-class l = (c : ℕ) → contains l.concrete c ≡ (nat_lt c l.class && is_concrete l.classes c)
