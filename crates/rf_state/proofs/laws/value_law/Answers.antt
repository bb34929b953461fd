use Rattle.rf_state.proofs.ValueLemmas.{must-in_words, may-in_words}
use Rattle.rf_state.proofs.laws.value_law.Goals as goal

pub returns-clause-must : goal.returns-clause-must
returns-clause-must _ = must-in_words

pub returns-clause-may : goal.returns-clause-may
returns-clause-may _ = may-in_words
