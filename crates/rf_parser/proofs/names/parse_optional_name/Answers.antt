use Rattle.rf_parser.proofs.NameParts.{no_optional_name, optional_name}
use Rattle.rf_parser.proofs.names.parse_optional_name.Goals as goal

pub returns-in-Some-clause-ok : goal.returns-in-Some-clause-ok
returns-in-Some-clause-ok c = optional_name (rw c.in-Some.is at c.in_ok-name.ensures.found)

pub returns-in-None-clause-ok : goal.returns-in-None-clause-ok
returns-in-None-clause-ok c = no_optional_name (rw c.in-None.is at c.in_ok-name.ensures.none)
