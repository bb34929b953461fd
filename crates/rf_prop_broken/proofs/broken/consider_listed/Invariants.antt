use Rattle.rf_prop_broken.specs.Best.{Improves, fires_at}
use Rattle.rf_prop_broken.specs.declared.instances.Instances.TheVariants.{Broken}
use Rattle.rf_prop_broken.proofs.BrokenLemmas.{IsListedBelow}
use Rattle.rf_prop_broken.proofs.broken.consider_listed.Given as goal

abbrev pub invariant-loop-i : goal.invariant-loop-i
invariant-loop-i g l =
    Improves (fires_at (g.V.Facts.problem l.view) (g.V.Facts.state l.view) (Broken l.q)) (IsListedBelow l.values.items l.i) l.fn.best l.best
