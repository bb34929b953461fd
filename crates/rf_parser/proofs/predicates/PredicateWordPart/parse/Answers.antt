use Rattle.rf_parser.proofs.PredicateParts.{error_case, pred_case}
use Rattle.rf_parser.proofs.Singles.{starts_first, starts_parsed}
use Rattle.rf_parser.proofs.Wholes.{passed_on, parsed_as, parsed_next, returned, stuck_as}
use Rattle.rf_parser.proofs.predicates.PredicateWordPart.parse.Goals as goal

pub returns-in_err-rest-clause-stop : goal.returns-in_err-rest-clause-stop
returns-in_err-rest-clause-stop c = returned _ c.from_residual.ensures.1 (passed_on c.in_err-rest.ensures.stop (λ left h. stuck_as (pred_case _ c.in_default.ensures.none) h))

pub returns-in_default-clause-ok : goal.returns-in_default-clause-ok
returns-in_default-clause-ok c = parsed_as (pred_case _ c.in_default.ensures.none) c.in_ok-rest.ensures.ok

pub returns-then-both-clause-ok : goal.returns-then-both-clause-ok
returns-then-both-clause-ok c =
    parsed_as (error_case _ (starts_first c.in-Some.ensures.found)) (parsed_next (starts_parsed c.in-Some.ensures.found) (rw c.if-both.true at c.flag-both.ensures))

pub returns-else-both-clause-ok : goal.returns-else-both-clause-ok
returns-else-both-clause-ok c =
    parsed_as (error_case _ (starts_first c.in-Some.ensures.found)) (parsed_next (starts_parsed c.in-Some.ensures.found) (rw c.if-both.false at c.flag-both.ensures))
