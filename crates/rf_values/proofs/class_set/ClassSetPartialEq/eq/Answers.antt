use Rattle.std.proofs.Common.{nat_eq, ◌∙◌}
use Rattle.std.specs.Cmp.Lexicographic.{pointwise}
use Rattle.std.specs.FinSet.{items}
use Rattle.rf_values.proofs.Marked.{pointwise-words}
use Rattle.rf_values.proofs.class_set.ClassSetPartialEq.eq.Goals as goal

pub returns : goal.returns
returns c =
    c.eq.ensures
    ∙ pointwise-words c.self.inside.words c.other.inside.words c.self.invariant c.other.invariant
    ∙ (λ i. pointwise nat_eq (items (c.self.view_is i)) (items (c.other.view_is i)))
