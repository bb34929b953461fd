use Rattle.rf_final.proofs.Nodes.{size_is}
use Rattle.rf_final.proofs.laws.size_law.Goals as goal

pub returns : goal.returns
returns c = size_is
