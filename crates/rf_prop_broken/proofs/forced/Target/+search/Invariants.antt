use Rattle.std.proofs.Common.{◌≡◌, []}
use Rattle.rf_evaluate.proofs.EvaluationMeasure.{remaining}
use Rattle.rf_rules.specs.Predicates.{clause_at}
use Rattle.rf_prop_broken.specs.Best.{Improves, fires_at}
use Rattle.rf_prop_broken.specs.declared.instances.Instances.TheVariants.{Forced}
use Rattle.rf_prop_broken.proofs.LookingLemmas.{GoesOnAmong}
use Rattle.rf_prop_broken.proofs.forced.Target.+search.Given as goal

abbrev pub decreases-search : goal.decreases-search
decreases-search g l = remaining l.choice.now.waiting []

abbrev pub invariant-loop-number : goal.invariant-loop-number
invariant-loop-number g l =
    let p = g.V.Facts.problem l.self.view.now in
    let s = g.V.Facts.state l.self.view.now in
    record {
      view : l.evaluator.facts.now ≡ l.self.view.now;
      improves : Improves (fires_at p s (Forced l.self.predicate l.self.clause l.self.literal))
          (GoesOnAmong (clause_at p l.self.predicate l.self.clause).variables l.choice l.next.variable l.next.elements l.number) l.fn.best l.best;
    }
