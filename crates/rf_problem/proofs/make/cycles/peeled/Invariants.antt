use Rattle.rf_problem.proofs.CycleLemmas.{IsPeeled}
use Rattle.rf_problem.proofs.make.cycles.peeled.Given as goal

abbrev pub invariant-loop-number : goal.invariant-loop-number
invariant-loop-number g l = IsPeeled (g.E.Edges.edge l.edges) l.size l.fn.left l.rest l.number
