use Rattle.std.proofs.Common.{ap, ◌∙◌}
use Rattle.std.specs.Cmp.{nat_cmp_total}
use Rattle.std.specs.FinSet.{contains, union, contains-union}
use Rattle.rf_values.proofs.Marked.{AreWords-union, marked-union}
use Rattle.rf_values.proofs.class_set.ClassSet.either.Goals as goal

pub invariant_of-result : goal.invariant_of-result
invariant_of-result c = AreWords-union c.self.inside.words c.other.inside.words c.self.invariant c.other.invariant

pub returns-clause-classes : goal.returns-clause-classes
returns-clause-classes c =
    marked-union c.self.inside.words c.other.inside.words ∙ (λ i. union (c.self.view_is i) (c.other.view_is i))

pub returns-clause-members : goal.returns-clause-members
returns-clause-members c = λ d.
    ap (λ s. contains s d) (returns-clause-classes c)
    ∙ contains-union nat_cmp_total c.args.self c.args.other d
