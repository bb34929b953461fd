use Rattle.std.proofs.Common.{◌≡◌, None}
use Rattle.rf_finite.specs.Range.{first_below}
use Rattle.rf_graph.specs.First.{is_wrongly_contained, when}
use Rattle.rf_graph.specs.declared.verdict.Violation.TheVariants.{Containers}
use Rattle.rf_satisfy.proofs.kinds.containers.first_containers.Given as goal

abbrev pub invariant-loop-node : goal.invariant-loop-node
invariant-loop-node l = first_below l.node (λ z. when (is_wrongly_contained l.problem l.graph z) (Containers z)) ≡ None
