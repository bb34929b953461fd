use Rattle.std.proofs.lemmas.Result.{on_ok_weaker}
use Rattle.rf_problem.specs.Parts.{predicate_at}
use Rattle.rf_prop_broken.proofs.BrokenLemmas.{broken-all}
use Rattle.rf_prop_broken.proofs.broken.consider_broken.Goals as goal

pub returns : goal.returns
returns g c =
    let p = g.V.Facts.problem c.args.view.now in
    let s = g.V.Facts.state c.args.view.now in
    on_ok_weaker c.consider_affirmed.result
    (λ h. broken-all p s c.args.q (predicate_at p.predicates c.args.q).arity c.args.best.now c.consider_listed.new.best c.consider_affirmed.new.best c.in_ok-consider_listed.ensures h)
    c.consider_affirmed.ensures
