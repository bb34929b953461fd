use Rattle.rf_soundness.proofs.ForcedWords.{forced_effect_is_in_words, given_is_in_words}
use Rattle.rf_soundness.proofs.LiteralWords.{literal_is_in_words}
use Rattle.rf_soundness.proofs.words.forced_law.Goals as goal

pub returns : goal.returns
returns _ = record { given = given_is_in_words; literals = literal_is_in_words; forced = forced_effect_is_in_words }
