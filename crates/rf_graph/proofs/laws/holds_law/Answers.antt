use Rattle.rf_graph.proofs.Meaning.{computed_meaning, computed_meaning-IsMeaning, meaning-unique, Holds-from_holds, holds-from_Holds}
use Rattle.rf_graph.proofs.laws.holds_law.Goals as goal

pub returns-clause-computed : goal.returns-clause-computed
returns-clause-computed _ = λ p g symbol t e. (holds-from_Holds p g symbol t e, Holds-from_holds p g symbol t e)

pub returns-clause-exists : goal.returns-clause-exists
returns-clause-exists _ = λ p g. (computed_meaning p g, computed_meaning-IsMeaning p g)

pub returns-clause-unique : goal.returns-clause-unique
returns-clause-unique _ = λ p g says tells first second q t e. meaning-unique p g says tells first second q t e
