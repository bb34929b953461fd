use Rattle.std.proofs.Common.{◌≡◌, take, true}
use Rattle.std.specs.List.{list_any}
use Rattle.rf_rules.specs.Predicates.{origins_of}
use Rattle.rf_prop_broken.specs.Asserting.{is_affirmed_by}
use Rattle.rf_prop_broken.specs.Best.{Improves, fires_at}
use Rattle.rf_prop_broken.specs.declared.instances.Instances.TheVariants.{Broken}
use Rattle.rf_prop_broken.proofs.asserted.consider_affirmed.Given as goal

abbrev pub invariant-loop-assertion : goal.invariant-loop-assertion
invariant-loop-assertion g l =
    let s = g.V.Facts.state l.view in
    Improves (fires_at (g.V.Facts.problem l.view) s (Broken l.q))
    (λ t. list_any (is_affirmed_by l.q (origins_of s t)) (take l.assertion-index l.assertion-items) ≡ true) l.fn.best l.best
