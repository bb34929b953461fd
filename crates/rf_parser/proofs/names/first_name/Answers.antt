use Rattle.rf_parser.proofs.NameParts.{name_parsed}
use Rattle.rf_parser.proofs.names.first_name.Goals as goal

pub returns-in-Some-2-clause-found : goal.returns-in-Some-2-clause-found
returns-in-Some-2-clause-found c = name_parsed c.in-Some.ensures.cases.0 (rw c.in-Some-2.is at c.in_ok-name.ensures.found)
