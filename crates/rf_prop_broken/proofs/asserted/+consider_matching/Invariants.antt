use Rattle.std.proofs.Common.{length}
use Rattle.rf_prop_broken.specs.Best.{Improves, fires_at}
use Rattle.rf_prop_broken.specs.declared.instances.Instances.TheVariants.{Broken}
use Rattle.rf_prop_broken.proofs.AssertingLemmas.{MatchesAmong}
use Rattle.rf_prop_broken.proofs.asserted.+consider_matching.Given as goal

abbrev pub decreases-consider_matching : goal.decreases-consider_matching
decreases-consider_matching g l = length l.args.now

abbrev pub invariant-loop-number : goal.invariant-loop-number
invariant-loop-number g l =
    Improves (fires_at (g.V.Facts.problem l.view) (g.V.Facts.state l.view) (Broken l.q))
    (MatchesAmong (g.V.Facts.state l.view) l.objects l.others l.elements l.number) l.fn.best l.best
