use Rattle.std.proofs.Common.{◌∙◌, ◌&&◌, ap, ap₂}
use Rattle.std.specs.FinSet.{contains}
use Rattle.rf_values.specs.Truth.{keeps}
use Rattle.rf_state.specs.State.{keeps_asserted}
use Rattle.rf_state.proofs.Roots.{passes-more}
use Rattle.rf_state.proofs.root.candidates.Goals as goal

pub loop-class-preserved : goal.loop-class-preserved
loop-class-preserved c = λ d. passes-more _ _ _ _ (keeps_asserted c.args.problem.now c.args.o d) c.loop-class.class (c.loop-class.invariant d)
    (c.keeping-candidates.ensures d
    ∙ ap (λ b. contains c.loop-class.candidates d && b) (ap₂ keeps c.asserted-known.ensures (c.below.ensures d)))
