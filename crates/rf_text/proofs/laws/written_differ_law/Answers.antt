use Rattle.rf_text.proofs.WrittenLemmas.{written_injective}
use Rattle.rf_text.proofs.laws.written_differ_law.Goals as goal

pub returns : goal.returns
returns _ = written_injective
