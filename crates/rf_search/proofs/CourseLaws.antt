-- What holds of courses.
use Rattle.std.proofs.Common.{is_some, [], ◌∷◌, inl, inr, ap, subst}
use Rattle.rf_state.specs.State.{State}
use Rattle.rf_state.proofs.RootLemmas.{root-unique}
use Rattle.rf_tree.proofs.TreeLaws.{stand_is_computed}
use Rattle.rf_search.specs.Course.{Leads, root_place}
use Rattle.rf_search.specs.Laws.{CourseStands, CoursesArePrefixes}
use Rattle.rf_search.proofs.CourseLemmas.{Leads-left}
use Rattle.rf_search.proofs.OnceLemmas.{agree}

pub course_stands : CourseStands
course_stands p seed lines h =
    (stand_is_computed p h.root lines h.is_root).1 (ap is_some (Leads-left p seed 0 lines (root_place h.root ∷ []) h.left h.leads))

pub courses_are_prefixes : CoursesArePrefixes
courses_are_prefixes p seed lines other h k =
    let leads : Leads p seed 0 other (root_place h.root ∷ []) k.left =
    subst (λ (s : State). Leads p seed 0 other (root_place s ∷ []) k.left) (root-unique p k.root h.root k.is_root h.is_root) k.leads in
    elim (agree p seed 0 lines other (root_place h.root ∷ []) h.left k.left h.leads leads) [
      | inl a ↦ inl (a.0, a.1)
      | inr b ↦ inr (b.0, b.1)
    ]
