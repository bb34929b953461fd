use Rattle.rf_evaluate.specs.Gathering.{HasGathered}
use Rattle.rf_evaluate.specs.Hunts.{IsFoundAmong}
use Rattle.rf_evaluate.specs.Kept.{AreKept}
use Rattle.rf_evaluate.proofs.search.search_predicate.Given as goal

abbrev pub invariant-loop-clause : goal.invariant-loop-clause
invariant-loop-clause g l = record {
  kept : AreKept (g.K.Knowledge.known l.known) l.closures;
  gathered : HasGathered g.G.Gather.has g.G.Gather.covers
      (IsFoundAmong (g.K.Knowledge.known l.known) (g.T.TupleTest.passes l.test) l.arity l.clause-items l.clause-index) l.fn.gathered l.gathered;
}
