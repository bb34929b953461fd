use Rattle.std.proofs.Common.{ℕ, Bool, take, not}
use Rattle.rf_graph.specs.First.{fits_ends}
use Rattle.rf_graph.specs.declared.graph.Graph.{Graph}
use Rattle.rf_problem.specs.declared.problem.Problem.{Problem}
use Rattle.rf_satisfy.specs.Least.{IsFirstFailing}
use Rattle.rf_satisfy.proofs.kinds.ends.first_edge.Given as goal

abbrev pub is_misplaced : Problem → Graph → ℕ → ℕ → ℕ → Bool
is_misplaced p g r x y = not (fits_ends p g r x y)

abbrev pub invariant-loop-edge : goal.invariant-loop-edge
invariant-loop-edge l =
    IsFirstFailing (λ e. is_misplaced l.problem l.graph e.reference e.from e.to) (take l.edge-index l.edge-items) l.least
