use Rattle.std.proofs.Common.{◌∙◌}
use Rattle.rf_problem.specs.Contained.{is_contained_class}
use Rattle.rf_rules.proofs.ClassLemmas.{classes_where-is}
use Rattle.rf_rules.proofs.ContainmentLemmas.{is_contained_class-past}
use Rattle.rf_rules.proofs.containment.references.contained_classes.Goals as goal

pub returns : goal.returns
returns c =
    let p = c.args.problem.now in
    classes_where-is p (is_contained_class p) c.contained_classes.result (λ k l. c.contained_classes.ensures k) (λ k m. c.contained_classes.ensures k ∙ is_contained_class-past p k m)
