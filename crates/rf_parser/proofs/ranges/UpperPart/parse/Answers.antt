use Rattle.rf_parser.proofs.RangeParts.{upper_absent, upper_number, upper_star, upper_stuck}
use Rattle.rf_parser.proofs.Wholes.{stops}
use Rattle.rf_parser.proofs.ranges.UpperPart.parse.Goals as goal

pub returns-in_default-clause-ok : goal.returns-in_default-clause-ok
returns-in_default-clause-ok c = upper_absent c.in_default.ensures.none

pub returns-in-Some-accept-clause-ok : goal.returns-in-Some-accept-clause-ok
returns-in-Some-accept-clause-ok c = upper_star c.in-Some.ensures.found c.in-Some-accept.ensures.found

pub returns-in_default-first_number-clause-stop : goal.returns-in_default-first_number-clause-stop
returns-in_default-first_number-clause-stop c = stops (upper_stuck c.in-Some.ensures.found c.in_default-accept.ensures.none c.in_default-first_number.ensures.none)

pub returns-clause-ok : goal.returns-clause-ok
returns-clause-ok c = upper_number c.in-Some.ensures.found c.in-Some-first_number.ensures.found
