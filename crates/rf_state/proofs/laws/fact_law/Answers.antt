use Rattle.rf_state.proofs.FactLemmas.{fact-at, fact-at_opposite, fact-mirrored, fact-off}
use Rattle.rf_state.proofs.laws.fact_law.Goals as goal

pub returns-clause-mirrored : goal.returns-clause-mirrored
returns-clause-mirrored _ = fact-mirrored

pub returns-clause-edge : goal.returns-clause-edge
returns-clause-edge _ = fact-at

pub returns-clause-opposite : goal.returns-clause-opposite
returns-clause-opposite _ = fact-at_opposite

pub returns-clause-nowhere_else : goal.returns-clause-nowhere_else
returns-clause-nowhere_else _ = fact-off
