use Rattle.rf_parser.proofs.PredicateParts.{call_case, differ_case, same_case}
use Rattle.rf_parser.proofs.Singles.{starts_first, starts_parsed}
use Rattle.rf_parser.proofs.Wholes.{passed_on, parsed_as, parsed_next, returned, stuck_as, stuck_next}
use Rattle.rf_parser.proofs.predicates.LiteralTailPart.parse.Goals as goal

pub returns-in_err-right-clause-stop : goal.returns-in_err-right-clause-stop
returns-in_err-right-clause-stop c = returned _ c.from_residual.ensures.1 (passed_on c.in_err-right.ensures.stop (λ left h.
    stuck_as (same_case _ (starts_first c.in-Some.ensures.found)) (stuck_next (starts_parsed c.in-Some.ensures.found) h)))

pub returns-in-Some-clause-ok : goal.returns-in-Some-clause-ok
returns-in-Some-clause-ok c = parsed_as (same_case _ (starts_first c.in-Some.ensures.found)) (parsed_next (starts_parsed c.in-Some.ensures.found) c.in_ok-right.ensures.ok)

pub returns-in_err-right-2-clause-stop : goal.returns-in_err-right-2-clause-stop
returns-in_err-right-2-clause-stop c = returned _ c.from_residual-in_err-right-2.ensures.1 (passed_on c.in_err-right-2.ensures.stop (λ left h.
    stuck_as (differ_case _ (starts_first c.in-Some-accept.ensures.found)) (stuck_next (starts_parsed c.in-Some-accept.ensures.found) h)))

pub returns-in-Some-accept-clause-ok : goal.returns-in-Some-accept-clause-ok
returns-in-Some-accept-clause-ok c =
    parsed_as (differ_case _ (starts_first c.in-Some-accept.ensures.found)) (parsed_next (starts_parsed c.in-Some-accept.ensures.found) c.in_ok-right-2.ensures.ok)

pub returns-in_err-call-clause-stop : goal.returns-in_err-call-clause-stop
returns-in_err-call-clause-stop c = returned _ c.from_residual-in_err-call.ensures.1 (passed_on c.in_err-call.ensures.stop (λ left h.
    stuck_as (call_case _ c.in_default.ensures.none c.in_default-accept.ensures.none) h))

pub returns-clause-ok : goal.returns-clause-ok
returns-clause-ok c = parsed_as (call_case _ c.in_default.ensures.none c.in_default-accept.ensures.none) c.in_ok-call.ensures.ok
