-- Where the budget is enough, no unfinished tree is written.
use Rattle.std.proofs.Common.{◌≡◌, ℕ, List, subst}
use Rattle.rf_io.specs.Sink.{SinkState}
use Rattle.rf_problem.specs.declared.problem.Problem.{Problem}
use Rattle.rf_words.specs.declared.request.Command.{Command}
use Rattle.rf_words.specs.declared.request.Command.TheVariants.{Check, Evaluate, Generate, Grow, Session, Verify}
use Rattle.rf_run.specs.Answers.{HasEnough, IsRightGeneration}
use Rattle.rf_run.specs.Leaves.{IsRightEnd, Wrote}
use Rattle.rf_run.specs.declared.status.Status.{Status}
use Rattle.rf_run.specs.declared.status.Status.TheVariants.{Unfinished}

-- what was written with that status is right of no such command
too_few : (c : Command) (p : Problem) (second : List ℕ) (old new : SinkState) → HasEnough c p → Wrote (IsRightEnd c p second) old new Unfinished → ⊥
too_few (Generate file seed budget json) p second old new enough wrote =
    (subst (IsRightGeneration p budget wrote.0.text) wrote.2 wrote.1).too_few enough
too_few (Check file graph) p second old new enough wrote = enough
too_few (Verify file tree) p second old new enough wrote = enough
too_few (Evaluate file) p second old new enough wrote = enough
too_few (Session file script) p second old new enough wrote = enough
too_few (Grow n) p second old new enough wrote = enough

pub not_unfinished :
    (c : Command) (p : Problem) (second : List ℕ) (old new : SinkState) (s : Status) → HasEnough c p → Wrote (IsRightEnd c p second) old new s →
    s ≡ Unfinished → ⊥
not_unfinished c p second old new s enough wrote is =
    too_few c p second old new enough (subst (Wrote (IsRightEnd c p second) old new) is wrote)
