use Rattle.rf_text.proofs.WrittenLemmas.{one_written}
use Rattle.rf_text.proofs.laws.written_end_law.Goals as goal

pub returns : goal.returns
returns _ = one_written
