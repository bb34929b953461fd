use Rattle.rf_syntax.proofs.Endings.{statement_ends}
use Rattle.rf_syntax.proofs.laws.statement_ends_law.Goals as goal

pub returns : goal.returns
returns _ = statement_ends
