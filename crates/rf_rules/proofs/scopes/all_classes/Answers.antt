use Rattle.std.proofs.Common.{sym, ap, ◌∙◌}
use Rattle.std.specs.FinSet.{insert}
use Rattle.rf_rules.proofs.ScopeLemmas.{members_below-all, members_below-zero}
use Rattle.rf_rules.proofs.scopes.all_classes.Goals as goal

pub loop-class-init : goal.loop-class-init
loop-class-init c = c.empty-classes.ensures.classes ∙ sym members_below-zero

pub loop-class-preserved : goal.loop-class-preserved
loop-class-preserved c =
    c.adding-classes.ensures.classes ∙ ap (λ set. insert set c.loop-class.class) c.loop-class.invariant ∙ sym (members_below-all c.loop-class.class)
