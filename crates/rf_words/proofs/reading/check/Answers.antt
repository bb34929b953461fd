use Rattle.rf_words.proofs.Meanings.{no_check}
use Rattle.rf_words.proofs.reading.check.Goals as goal

pub returns-in-Err-clause-usage : goal.returns-in-Err-clause-usage
returns-in-Err-clause-usage c usage = no_check c.args.arguments.now (c.in-Err.ensures.usage usage)
