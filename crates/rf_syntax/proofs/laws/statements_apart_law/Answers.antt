use Rattle.rf_syntax.proofs.Endings.{statements_apart}
use Rattle.rf_syntax.proofs.laws.statements_apart_law.Goals as goal

pub returns : goal.returns
returns _ = statements_apart
