use Rattle.rf_words.proofs.Meanings.{no_evaluate}
use Rattle.rf_words.proofs.reading.evaluate.Goals as goal

pub returns-in-Err-clause-usage : goal.returns-in-Err-clause-usage
returns-in-Err-clause-usage c usage = no_evaluate c.args.arguments.now (c.in-Err.ensures.usage usage)
