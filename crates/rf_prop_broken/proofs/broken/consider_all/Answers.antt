use Rattle.std.proofs.lemmas.Result.{on_ok_weaker}
use Rattle.rf_prop_broken.specs.Best.{fires_at}
use Rattle.rf_prop_broken.specs.declared.instances.Instances.TheVariants.{Broken}
use Rattle.rf_prop_broken.proofs.AssertingLemmas.{matches-any}
use Rattle.rf_prop_broken.proofs.FireLemmas.{broken-parts}
use Rattle.rf_prop_broken.proofs.broken.consider_all.Goals as goal

pub returns : goal.returns
returns g c =
    let p = g.V.Facts.problem c.args.view.now in
    let s = g.V.Facts.state c.args.view.now in
    on_ok_weaker c.consider_matching.result
    (λ h. matches-any (fires_at p s (Broken c.args.q)) s c.args.arity c.of.result c.args.best.now c.consider_matching.new.best c.requires c.of.ensures
    (λ t f. (broken-parts p s c.args.q t f).tuple.below) h) c.consider_matching.ensures
