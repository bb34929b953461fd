use Rattle.std.proofs.Common.{◌≡◌, ◌≤◌}
use Rattle.rf_finite.specs.Range.{count_below}
use Rattle.rf_problem.specs.Classes.{is_concrete}
use Rattle.rf_depth.proofs.computing.concrete_classes.Given as goal

abbrev pub invariant-loop-class : goal.invariant-loop-class
invariant-loop-class l = (l.count ≡ count_below l.class (is_concrete l.problem.classes)) × (l.count ≤ l.class)
