-- What holds of the problems of numbers.
use Rattle.std.specs.Prelude.{◌≡◌, ℕ}
use Rattle.rf_problem.specs.declared.problem.Problem.{Problem}
use Rattle.rf_grow.specs.Grown.{IsGrown}

-- a number has one problem
abbrev pub GrownIsOne : Type 0
GrownIsOne = (n : ℕ) (p q : Problem) → IsGrown n p → IsGrown n q → p ≡ q
