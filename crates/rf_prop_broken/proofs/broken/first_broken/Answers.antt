use Rattle.std.proofs.Common.{◌≡◌, length, ◌∙◌}
use Rattle.rf_problem.specs.Parts.{predicate_at}
use Rattle.rf_prop_broken.specs.declared.instances.Instances.TheVariants.{Broken}
use Rattle.rf_prop_broken.proofs.BestLemmas.{first_tuple-from_best}
use Rattle.rf_prop_broken.proofs.FireLemmas.{broken-parts}
use Rattle.rf_prop_broken.proofs.broken.first_broken.Goals as goal

pub returns : goal.returns
returns g c =
    let p = g.V.Facts.problem c.args.view.now in
    let s = g.V.Facts.state c.args.view.now in
    let arity = (predicate_at p.predicates c.args.q).arity in
    c.rule_at_best.ensures
    ∙ first_tuple-from_best p s (Broken c.args.q) (length s.objects) arity (λ t. length t ≡ arity) c.consider_broken.new.best c.in_ok-consider_broken.ensures
    (λ t f. (broken-parts p s c.args.q t f).tuple.many) (λ t f. (broken-parts p s c.args.q t f).tuple)
