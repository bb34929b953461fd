use Rattle.std.proofs.Common.{ap, ◌∙◌}
use Rattle.std.specs.Ordering.{nat_cmp}
use Rattle.std.specs.FinSet.{contains, contains-empty}
use Rattle.rf_values.proofs.Marked.{marked-zeros}
use Rattle.rf_values.proofs.class_set.ClassSet.empty.Goals as goal

pub returns-clause-classes : goal.returns-clause-classes
returns-clause-classes c = marked-zeros

pub returns-clause-members : goal.returns-clause-members
returns-clause-members c = λ d. ap (λ s. contains s d) marked-zeros ∙ contains-empty nat_cmp d
