use Rattle.rf_parser.proofs.AssertionParts.{error_value, false_value, no_value, true_value, unknown_value}
use Rattle.rf_parser.proofs.Singles.{starts_first, starts_parsed}
use Rattle.rf_parser.proofs.Wholes.{parsed_as, stops}
use Rattle.rf_parser.proofs.assertions.ValueWordPart.parse.Goals as goal

pub returns-in-Some-clause-ok : goal.returns-in-Some-clause-ok
returns-in-Some-clause-ok c = parsed_as (true_value _ (starts_first c.in-Some.ensures.found)) (starts_parsed c.in-Some.ensures.found)

pub returns-in-Some-accept-clause-ok : goal.returns-in-Some-accept-clause-ok
returns-in-Some-accept-clause-ok c = parsed_as (false_value _ (starts_first c.in-Some-accept.ensures.found)) (starts_parsed c.in-Some-accept.ensures.found)

pub returns-in-Some-accept-2-clause-ok : goal.returns-in-Some-accept-2-clause-ok
returns-in-Some-accept-2-clause-ok c = parsed_as (unknown_value _ (starts_first c.in-Some-accept-2.ensures.found)) (starts_parsed c.in-Some-accept-2.ensures.found)

pub returns-in-Some-accept-3-clause-ok : goal.returns-in-Some-accept-3-clause-ok
returns-in-Some-accept-3-clause-ok c = parsed_as (error_value _ (starts_first c.in-Some-accept-3.ensures.found)) (starts_parsed c.in-Some-accept-3.ensures.found)

pub returns-clause-stop : goal.returns-clause-stop
returns-clause-stop c = stops (no_value c.in_default.ensures.none c.in_default-accept.ensures.none c.in_default-accept-2.ensures.none c.in_default-accept-3.ensures.none)
