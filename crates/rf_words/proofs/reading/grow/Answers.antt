use Rattle.std.proofs.Common.{decimal}
use Rattle.rf_words.proofs.Meanings.{no_grow}
use Rattle.rf_words.proofs.reading.grow.Goals as goal

pub returns-in-Err-clause-usage : goal.returns-in-Err-clause-usage
returns-in-Err-clause-usage c usage = no_grow c.args.arguments.now (λ a said low high. c.in-Err.ensures.usage usage (decimal a) said)
