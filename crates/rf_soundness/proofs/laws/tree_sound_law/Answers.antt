use Rattle.rf_soundness.proofs.Trees.{closed_states_have_no_graph}
use Rattle.rf_soundness.proofs.laws.tree_sound_law.Goals as goal

pub returns : goal.returns
returns _ = closed_states_have_no_graph
