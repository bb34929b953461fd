use Rattle.rf_parser.proofs.NameParts.{name_stuck}
use Rattle.rf_parser.proofs.Wholes.{stops}
use Rattle.rf_parser.proofs.names.NamePart.parse.Goals as goal

pub returns-in-None-clause-stop : goal.returns-in-None-clause-stop
returns-in-None-clause-stop c = stops (name_stuck (rw c.in-None.is at c.in_ok-name.ensures.none))
