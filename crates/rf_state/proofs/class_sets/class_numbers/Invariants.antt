use Rattle.std.proofs.Common.{◌≡◌, ℕ}
use Rattle.std.specs.Prelude.{nat_lt}
use Rattle.std.specs.FinSet.{contains}
use Rattle.rf_state.proofs.class_sets.class_numbers.Given as goal

abbrev pub invariant-loop-class : goal.invariant-loop-class
invariant-loop-class l = (c : ℕ) → contains l.numbers c ≡ nat_lt c l.class
