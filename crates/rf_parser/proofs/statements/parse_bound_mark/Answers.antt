use Rattle.rf_parser.proofs.Singles.{starts_first, starts_parsed}
use Rattle.rf_parser.proofs.StatementParts.{equal_case, plus_equal_case}
use Rattle.rf_parser.proofs.Wholes.{passed_on, parsed_as, returned, stuck_as}
use Rattle.rf_parser.proofs.statements.parse_bound_mark.Goals as goal

pub returns-in-Some-clause-ok : goal.returns-in-Some-clause-ok
returns-in-Some-clause-ok c = parsed_as (plus_equal_case _ (starts_first c.in-Some.ensures.found)) (starts_parsed c.in-Some.ensures.found)

pub returns-in_err-rest-clause-stop : goal.returns-in_err-rest-clause-stop
returns-in_err-rest-clause-stop c = returned _ c.from_residual.ensures.1 (passed_on c.in_err-rest.ensures.stop (λ left h. stuck_as (equal_case _ c.in_default.ensures.none) h))

pub returns-clause-ok : goal.returns-clause-ok
returns-clause-ok c = parsed_as (equal_case _ c.in_default.ensures.none) c.in_ok-rest.ensures.ok
