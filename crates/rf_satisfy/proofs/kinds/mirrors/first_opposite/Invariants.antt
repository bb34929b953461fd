use Rattle.std.proofs.Common.{ℕ, Bool, take, not}
use Rattle.rf_graph.specs.First.{has_mirror}
use Rattle.rf_graph.specs.declared.graph.Graph.{Graph}
use Rattle.rf_problem.specs.Parts.{reference_at}
use Rattle.rf_problem.specs.declared.problem.Problem.{Problem}
use Rattle.rf_satisfy.specs.Least.{IsFirstFailing}
use Rattle.rf_satisfy.proofs.kinds.mirrors.first_opposite.Given as goal

abbrev pub lacks_mirror : Problem → Graph → ℕ → ℕ → ℕ → Bool
lacks_mirror p g r x y = not (has_mirror g (reference_at p.references r).opposite x y)

abbrev pub invariant-loop-edge : goal.invariant-loop-edge
invariant-loop-edge l =
    IsFirstFailing (λ e. lacks_mirror l.problem l.index.graph.now e.reference e.from e.to) (take l.edge-index l.edge-items) l.least
