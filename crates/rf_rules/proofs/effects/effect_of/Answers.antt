use Rattle.std.proofs.Common.{◌∙◌, ap, sym}
use Rattle.rf_problem.specs.declared.problem.Problem.{Problem}
use Rattle.rf_rules.specs.Predicates.{forced}
use Rattle.rf_rules.specs.Rules.{instance_of}
use Rattle.rf_rules.specs.declared.rule.Rule.{Rule}
use Rattle.rf_rules.proofs.effects.effect_of.Goals as goal

pub returns-in-Forced : goal.returns-in-Forced
returns-in-Forced g c =
    let s = g.F.Facts.state c.args.view.now in
    c.forced_effect.ensures s
    ∙ ap (λ (p : Problem). (forced p s c.in-Forced.q c.in-Forced.k c.in-Forced.j c.in-Forced.objects).effect) c.problem-problem.ensures
    ∙ ap (λ (rule : Rule). (instance_of (g.F.Facts.problem c.args.view.now) s rule).effect) (sym c.in-Forced.is)
