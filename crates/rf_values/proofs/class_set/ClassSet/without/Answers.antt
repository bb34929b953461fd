use Rattle.std.proofs.Common.{ap, ◌∙◌}
use Rattle.std.specs.Cmp.{nat_cmp_total}
use Rattle.std.specs.FinSet.{contains, difference, contains-difference}
use Rattle.rf_values.proofs.Marked.{marked-difference}
use Rattle.rf_values.proofs.class_set.ClassSet.without.Goals as goal

pub returns-clause-classes : goal.returns-clause-classes
returns-clause-classes c =
    marked-difference c.self.inside.words c.other.inside.words c.other.invariant ∙ (λ i. difference (c.self.view_is i) (c.other.view_is i))

pub returns-clause-members : goal.returns-clause-members
returns-clause-members c = λ d.
    ap (λ s. contains s d) (returns-clause-classes c)
    ∙ contains-difference nat_cmp_total c.args.self c.args.other d
