use Rattle.std.proofs.Common.{ap, ◌∙◌}
use Rattle.std.specs.Cmp.{nat_cmp_total}
use Rattle.std.specs.FinSet.{contains, intersection, contains-intersection}
use Rattle.rf_values.proofs.Marked.{marked-intersection}
use Rattle.rf_values.proofs.class_set.ClassSet.both.Goals as goal

pub returns-clause-classes : goal.returns-clause-classes
returns-clause-classes c =
    marked-intersection c.self.inside.words c.other.inside.words ∙ (λ i. intersection (c.self.view_is i) (c.other.view_is i))

pub returns-clause-members : goal.returns-clause-members
returns-clause-members c = λ d.
    ap (λ s. contains s d) (returns-clause-classes c)
    ∙ contains-intersection nat_cmp_total c.args.self c.args.other d
