use Rattle.std.proofs.Common.{length}
use Rattle.rf_problem.proofs.assertions.Assertions.+heard_from.Given as goal

abbrev pub decreases-heard_from : goal.decreases-heard_from
decreases-heard_from l = length l.rest.now
