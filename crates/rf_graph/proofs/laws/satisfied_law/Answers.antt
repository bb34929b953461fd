use Rattle.rf_graph.proofs.Satisfying.{Satisfies-from_Sat, Sat-from_Satisfies}
use Rattle.rf_graph.proofs.laws.satisfied_law.Goals as goal

pub returns : goal.returns
returns _ = λ p g fits. (Satisfies-from_Sat p g fits, Sat-from_Satisfies p g fits)
