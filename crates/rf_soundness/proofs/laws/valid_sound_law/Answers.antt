use Rattle.rf_soundness.proofs.Trees.{valid_is_sound}
use Rattle.rf_soundness.proofs.laws.valid_sound_law.Goals as goal

pub returns : goal.returns
returns _ = valid_is_sound
