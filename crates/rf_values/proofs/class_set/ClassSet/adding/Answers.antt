use Rattle.std.proofs.Common.{ap, ◌∙◌}
use Rattle.std.specs.Prelude.{◌||◌}
use Rattle.std.specs.Cmp.{nat_cmp_total, unsigned_tied}
use Rattle.std.specs.FinSet.{contains, insert, contains-insert}
use Rattle.rf_values.proofs.Marked.{marked-insert, AreWords-set}
use Rattle.rf_values.proofs.class_set.ClassSet.adding.Goals as goal

pub invariant_of-result : goal.invariant_of-result
invariant_of-result c = AreWords-set c.self.inside.words c.args.c c.self.invariant c.requires

pub returns-clause-classes : goal.returns-clause-classes
returns-clause-classes c =
    marked-insert c.self.inside.words c.args.c c.self.invariant c.requires ∙ ap (λ s. insert s c.args.c) c.self.view_is

pub returns-clause-members : goal.returns-clause-members
returns-clause-members c = λ d.
    ap (λ s. contains s d) (returns-clause-classes c)
    ∙ contains-insert nat_cmp_total c.args.self c.args.c d
    ∙ ap (λ b. b || contains c.args.self d) (unsigned_tied d c.args.c)
