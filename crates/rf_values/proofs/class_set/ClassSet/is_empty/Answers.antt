use Rattle.std.proofs.Common.{◌∷◌, [], sym, ap, ◌∙◌}
use Rattle.std.specs.Cmp.{nat_cmp_total}
use Rattle.std.specs.Cmp.Lexicographic.{bytes_decides}
use Rattle.std.specs.Ordering.{nat_cmp}
use Rattle.std.specs.FinSet.{empty, contains, contains-empty, same_set, nat_cmp-IsAntisymmetric}
use Rattle.rf_values.specs.Words.{marked}
use Rattle.rf_values.proofs.Marked.{marked-zeros, zeros-from_marked}
use Rattle.rf_values.proofs.class_set.ClassSet.is_empty.Goals as goal

pub returns-clause-classes : goal.returns-clause-classes
returns-clause-classes c =
    let decides = bytes_decides c.self.inside.words (0 ∷ 0 ∷ 0 ∷ 0 ∷ []) in (
      λ same. sym c.self.view_is ∙ ap marked (decides.0 (sym c.eq.ensures ∙ same)) ∙ marked-zeros,
      λ none. c.eq.ensures ∙ decides.1 (zeros-from_marked c.self.inside.words c.self.invariant (c.self.view_is ∙ none)),
    )

pub returns-clause-members : goal.returns-clause-members
returns-clause-members c =
    let is = returns-clause-classes c in (
      λ same d. ap (λ s. contains s d) (is.0 same) ∙ contains-empty nat_cmp d,
      λ none. is.1 (same_set nat_cmp_total nat_cmp-IsAntisymmetric c.args.self empty (λ d. none d ∙ sym (contains-empty nat_cmp d))),
    )
