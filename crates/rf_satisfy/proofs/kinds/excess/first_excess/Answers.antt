use Rattle.rf_satisfy.proofs.KnownLemmas.{first-node}
use Rattle.rf_satisfy.proofs.kinds.excess.first_excess.Goals as goal

pub returns-in-Class-clause-first : goal.returns-in-Class-clause-first
returns-in-Class-clause-first c = rw c.in-Class.is (first-node c.args.index.now.problem c.args.index.now.graph c.in-Class.class c.first_found.result c.first_found.ensures)
