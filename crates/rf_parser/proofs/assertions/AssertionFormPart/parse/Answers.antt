use Rattle.rf_parser.proofs.AssertionParts.{maybe_case, not_case}
use Rattle.rf_parser.proofs.Singles.{starts_first, starts_parsed}
use Rattle.rf_parser.proofs.Wholes.{passed_on, parsed_as, parsed_next, returned, stuck_as, stuck_next}
use Rattle.rf_parser.proofs.assertions.AssertionFormPart.parse.Goals as goal

pub returns-in_err-atom-clause-stop : goal.returns-in_err-atom-clause-stop
returns-in_err-atom-clause-stop c = returned _ c.from_residual.ensures.1 (passed_on c.in_err-atom.ensures.stop (λ left h.
    stuck_as (not_case _ (starts_first c.in-Some.ensures.found)) (stuck_next (starts_parsed c.in-Some.ensures.found) h)))

pub returns-in-Some-clause-ok : goal.returns-in-Some-clause-ok
returns-in-Some-clause-ok c =
    parsed_as (not_case _ (starts_first c.in-Some.ensures.found)) (parsed_next (starts_parsed c.in-Some.ensures.found) c.in_ok-atom.ensures.ok)

pub returns-in_err-atom-2-clause-stop : goal.returns-in_err-atom-2-clause-stop
returns-in_err-atom-2-clause-stop c = returned _ c.from_residual-in_err-atom-2.ensures.1 (passed_on c.in_err-atom-2.ensures.stop (λ left h.
    stuck_as (maybe_case _ (starts_first c.in-Some-accept.ensures.found)) (stuck_next (starts_parsed c.in-Some-accept.ensures.found) h)))

pub returns-in-Some-accept-clause-ok : goal.returns-in-Some-accept-clause-ok
returns-in-Some-accept-clause-ok c =
    parsed_as (maybe_case _ (starts_first c.in-Some-accept.ensures.found)) (parsed_next (starts_parsed c.in-Some-accept.ensures.found) c.in_ok-atom-2.ensures.ok)
