use Rattle.rf_syntax.proofs.Beginnings.{statement_begins}
use Rattle.rf_syntax.proofs.laws.statement_begins_law.Goals as goal

pub returns : goal.returns
returns _ = statement_begins
