use Rattle.rf_soundness.proofs.Decisions.{decisions_lose_no_graph}
use Rattle.rf_soundness.proofs.laws.decision_sound_law.Goals as goal

pub returns : goal.returns
returns _ = decisions_lose_no_graph
