use Rattle.std.proofs.Common.{◌≡◌, ℕ, ◌&&◌}
use Rattle.std.specs.FinSet.{contains}
use Rattle.rf_finite.specs.Range.{all_below}
use Rattle.rf_problem.specs.Classes.{is_concrete, may_have_class}
use Rattle.rf_problem.specs.Parts.{object_at}
use Rattle.rf_state.specs.State.{keeps_asserted}
use Rattle.rf_state.proofs.root.candidates.Given as goal

abbrev pub invariant-loop-class : goal.invariant-loop-class
invariant-loop-class l =
    (c : ℕ) → contains l.candidates c
    ≡ (is_concrete l.problem.classes c
    && (may_have_class l.problem.classes (object_at l.problem.objects l.o).name (object_at l.problem.objects l.o).kind c
    && all_below l.class (keeps_asserted l.problem l.o c)))
