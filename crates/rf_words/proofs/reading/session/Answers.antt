use Rattle.rf_words.proofs.Meanings.{no_session}
use Rattle.rf_words.proofs.reading.session.Goals as goal

pub returns-in-Err-clause-usage : goal.returns-in-Err-clause-usage
returns-in-Err-clause-usage c usage = no_session c.args.arguments.now (c.in-Err.ensures.usage usage)
