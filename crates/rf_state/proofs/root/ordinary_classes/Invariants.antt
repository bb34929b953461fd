use Rattle.std.proofs.Common.{◌≡◌, ℕ, ◌&&◌}
use Rattle.std.specs.Prelude.{nat_lt}
use Rattle.std.specs.FinSet.{contains}
use Rattle.rf_state.specs.Root.{is_ordinary}
use Rattle.rf_state.proofs.root.ordinary_classes.Given as goal

abbrev pub invariant-loop-number : goal.invariant-loop-number
invariant-loop-number l = (c : ℕ) → contains l.ordinary c ≡ (nat_lt c l.number && is_ordinary l.problem c)
