use Rattle.rf_problem.specs.Cycles.{AreOffCycles, IsWithin}
use Rattle.rf_problem.proofs.CycleLemmas.{HasFar}
use Rattle.rf_problem.proofs.make.cycles.has_no_cycle.Given as goal

abbrev pub invariant-loop-round : goal.invariant-loop-round
invariant-loop-round g l = record {
  within : IsWithin l.left l.size;
  off : AreOffCycles (g.E.Edges.edge l.edges) l.size l.left;
  far : HasFar (g.E.Edges.edge l.edges) l.size l.left l._round;
}
