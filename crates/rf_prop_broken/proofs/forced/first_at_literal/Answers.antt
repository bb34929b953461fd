use Rattle.std.proofs.Common.{◌≤◌, length, sym, subst, ap, ◌∙◌}
use Rattle.rf_rules.specs.Predicates.{clause_at, free_count}
use Rattle.rf_prop_broken.specs.Best.{fires_at, rule_of_best}
use Rattle.rf_prop_broken.specs.Kinds.{most_of}
use Rattle.rf_prop_broken.specs.declared.instances.Instances.{Instances as InstancesOf}
use Rattle.rf_prop_broken.specs.declared.instances.Instances.TheVariants.{Forced}
use Rattle.rf_prop_broken.proofs.BestLemmas.{first_tuple-from_best, passes-best}
use Rattle.rf_prop_broken.proofs.FireLemmas.{forced-few, forced-parts}
use Rattle.rf_prop_broken.proofs.forced.first_at_literal.Goals as goal

pub rule_at_best-requires : goal.rule_at_best-requires
rule_at_best-requires g c = λ t e.
    let p = g.V.Facts.problem c.args.view.now in
    let s = g.V.Facts.state c.args.view.now in
    subst (λ (i : InstancesOf). length t ≤ most_of i) (sym c.instances.ensures)
    (forced-few p s c.args.q c.args.k c.args.j t c.requires.predicate c.requires.clause
    (passes-best (fires_at p s (Forced c.args.q c.args.k c.args.j)) (λ u. Unit {0}) c.consider.new.best t c.in_ok-consider.ensures e))

pub returns : goal.returns
returns g c =
    let p = g.V.Facts.problem c.args.view.now in
    let s = g.V.Facts.state c.args.view.now in
    c.rule_at_best.ensures
    ∙ (ap (λ (i : InstancesOf). rule_of_best i c.consider.new.best) c.instances.ensures
    ∙ first_tuple-from_best p s (Forced c.args.q c.args.k c.args.j) (length s.objects) (free_count (clause_at p c.args.q c.args.k).variables) (λ t. Unit {0})
    c.consider.new.best c.in_ok-consider.ensures (λ t f. tt) (λ t f. (forced-parts p s c.args.q c.args.k c.args.j t f).tuple))
