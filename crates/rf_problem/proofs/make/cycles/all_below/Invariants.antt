use Rattle.std.proofs.Common.{◌≡◌, ℕ, nat_lt}
use Rattle.std.specs.FinSet.{contains}
use Rattle.rf_problem.proofs.make.cycles.all_below.Given as goal

abbrev pub invariant-loop-number : goal.invariant-loop-number
invariant-loop-number l = (x : ℕ) → contains l.all x ≡ nat_lt x l.number
