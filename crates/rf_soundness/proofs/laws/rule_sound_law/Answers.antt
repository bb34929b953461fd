use Rattle.rf_soundness.proofs.Rules.{rules_are_sound}
use Rattle.rf_soundness.proofs.laws.rule_sound_law.Goals as goal

pub returns : goal.returns
returns _ = rules_are_sound
