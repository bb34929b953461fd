use Rattle.rf_words.proofs.Meanings.{one_command}
use Rattle.rf_words.proofs.laws.one_command_law.Goals as goal

pub returns : goal.returns
returns c = one_command
