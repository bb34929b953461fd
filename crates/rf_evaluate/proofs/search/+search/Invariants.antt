use Rattle.std.proofs.Common.{◌+◌, ◌*◌}
use Rattle.rf_evaluate.specs.Gathering.{HasGathered}
use Rattle.rf_evaluate.specs.Hunts.{IsReachedWith}
use Rattle.rf_evaluate.specs.Kept.{AreKept}
use Rattle.rf_evaluate.proofs.EvaluationMeasure.{remaining}
use Rattle.rf_evaluate.proofs.search.+search.Given as goal

abbrev pub decreases-search : goal.decreases-search
decreases-search g l = 2 * remaining l.stage.unassigned l.stage.pending + 1

abbrev pub decreases-search_on : goal.decreases-search_on
decreases-search_on g l = 2 * remaining l.stage.unassigned l.stage.pending

abbrev pub invariant-search_on-loop-number : goal.invariant-search_on-loop-number
invariant-search_on-loop-number g l = record {
  kept : AreKept (g.K.Knowledge.known l.known) l.closures;
  gathered : HasGathered g.G.Gather.has g.G.Gather.covers
      (IsReachedWith (g.K.Knowledge.known l.known) l.hunt.body (g.T.TupleTest.passes l.hunt.test.now) l.hunt.arity l.stage l.value l.v l.next.elements l.number)
      l.fn.gathered l.gathered;
}
