use Rattle.rf_soundness.proofs.Effects.{effects_lose_no_graph}
use Rattle.rf_soundness.proofs.laws.effect_sound_law.Goals as goal

pub returns : goal.returns
returns _ = effects_lose_no_graph
