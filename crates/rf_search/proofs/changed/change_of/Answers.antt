use Rattle.std.proofs.Common.{ap, sym, ◌∙◌}
use Rattle.rf_problem.specs.declared.problem.Problem.{Problem}
use Rattle.rf_rules.specs.Rules.{instance_of}
use Rattle.rf_rules.specs.declared.rule.Rule.{Rule}
use Rattle.rf_rules.specs.declared.rule.Rule.TheVariants.{Forced}
use Rattle.rf_search.specs.Changed.{change_by}
use Rattle.rf_search.proofs.changed.change_of.Goals as goal

pub returns-in-Forced : goal.returns-in-Forced
returns-in-Forced g c =
    let p = g.F.Facts.problem c.args.view.now in
    let s = g.F.Facts.state c.args.view.now in
    c.change_by.ensures ∙ (ap change_by (c.forced_effect.ensures s)
    ∙ (ap (λ (x : Problem). change_by (instance_of x s (Forced c.in-Forced.q c.in-Forced.k c.in-Forced.j c.in-Forced.objects)).effect) c.problem-problem.ensures
    ∙ ap (λ (rule : Rule). change_by (instance_of p s rule).effect) (sym c.in-Forced.is)))
