use Rattle.rf_vstate.proofs.Entries.{look_up-is_entry}
use Rattle.rf_vstate.proofs.laws.look_up_law.Goals as goal

pub returns : goal.returns
returns c = look_up-is_entry
