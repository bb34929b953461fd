use Rattle.rf_parser.proofs.ClassParts.{container_case, contains_case, no_word, refers_case}
use Rattle.rf_parser.proofs.Singles.{starts_first, starts_parsed}
use Rattle.rf_parser.proofs.Wholes.{parsed_as}
use Rattle.rf_parser.proofs.classes.parse_feature_word.Goals as goal

pub returns-in-Some : goal.returns-in-Some
returns-in-Some c = parsed_as (contains_case _ (starts_first c.in-Some.ensures.found)) (starts_parsed c.in-Some.ensures.found)

pub returns-in-Some-accept : goal.returns-in-Some-accept
returns-in-Some-accept c = parsed_as (container_case _ (starts_first c.in-Some-accept.ensures.found)) (starts_parsed c.in-Some-accept.ensures.found)

pub returns-in-Some-accept-2 : goal.returns-in-Some-accept-2
returns-in-Some-accept-2 c = parsed_as (refers_case _ (starts_first c.in-Some-accept-2.ensures.found)) (starts_parsed c.in-Some-accept-2.ensures.found)

pub returns : goal.returns
returns c = no_word c.in_default.ensures.none c.in_default-accept.ensures.none c.in_default-accept-2.ensures.none
