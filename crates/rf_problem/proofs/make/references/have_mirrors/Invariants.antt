use Rattle.std.proofs.Common.{ℕ, ◌<◌}
use Rattle.std.specs.Option.{ForSome}
use Rattle.rf_problem.specs.Parts.{reference_at}
use Rattle.rf_problem.specs.Valid.{AreMirrored}
use Rattle.rf_problem.proofs.make.references.have_mirrors.Given as goal

abbrev pub invariant-loop-number : goal.invariant-loop-number
invariant-loop-number l = (r : ℕ) → r < l.number → ForSome (reference_at l.references r).opposite (AreMirrored l.references r)
