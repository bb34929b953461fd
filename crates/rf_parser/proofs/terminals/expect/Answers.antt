use Rattle.rf_parser.proofs.Singles.{single_stuck, starts_parsed}
use Rattle.rf_parser.proofs.Wholes.{stops}
use Rattle.rf_parser.proofs.terminals.expect.Goals as goal

pub returns-in-Some-clause-ok : goal.returns-in-Some-clause-ok
returns-in-Some-clause-ok c = starts_parsed c.in-Some.ensures.found

pub returns-in-None-clause-stop : goal.returns-in-None-clause-stop
returns-in-None-clause-stop c = stops (single_stuck c.in-None.ensures.none)
