use Rattle.std.specs.Cmp.{nat_cmp_total}
use Rattle.std.specs.FinSet.{same_set, nat_cmp-IsAntisymmetric}
use Rattle.rf_values.proofs.Marked.{equal_is_same}
use Rattle.rf_values.proofs.class_set.same_members_law.Goals as goal

pub returns-clause-members : goal.returns-clause-members
returns-clause-members c = same_set nat_cmp_total nat_cmp-IsAntisymmetric

pub returns-clause-equal : goal.returns-clause-equal
returns-clause-equal c = equal_is_same
