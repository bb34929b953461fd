use Rattle.rf_words.proofs.Meanings.{no_verify}
use Rattle.rf_words.proofs.reading.verify.Goals as goal

pub returns-in-Err-clause-usage : goal.returns-in-Err-clause-usage
returns-in-Err-clause-usage c usage = no_verify c.args.arguments.now (c.in-Err.ensures.usage usage)
