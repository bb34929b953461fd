use Rattle.std.proofs.Common.{◌≡◌, None, not}
use Rattle.rf_finite.specs.Range.{first_below}
use Rattle.rf_graph.specs.First.{is_in_range, when}
use Rattle.rf_graph.specs.declared.verdict.Violation.TheVariants.{Degree}
use Rattle.rf_satisfy.proofs.kinds.degrees.first_outside.Given as goal

abbrev pub invariant-loop-node : goal.invariant-loop-node
invariant-loop-node l =
    first_below l.node (λ x. when (not (is_in_range l.problem l.graph l.reference x)) (Degree l.reference x)) ≡ None
