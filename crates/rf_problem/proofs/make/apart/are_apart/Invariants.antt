use Rattle.rf_problem.proofs.ApartLemmas.{AreFirstApart}
use Rattle.rf_problem.proofs.make.apart.are_apart.Given as goal

abbrev pub invariant-loop-number : goal.invariant-loop-number
invariant-loop-number g l = AreFirstApart g.T.Apart.AreApart l.things l.number
