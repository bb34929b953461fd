use Rattle.rf_words.proofs.Meanings.{found_if}
use Rattle.rf_words.proofs.reading.command.Goals as goal

pub returns-clause-found : goal.returns-clause-found
returns-clause-found c = found_if c.args.words.now c.read.result c.read.ensures.ok c.read.ensures.usage
