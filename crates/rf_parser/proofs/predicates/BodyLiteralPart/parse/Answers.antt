use Rattle.rf_parser.specs.Private.Parts.{call_tail_pieces, literal_tail_pieces}
use Rattle.rf_parser.specs.declared.predicates.LiteralTail.TheVariants.{Call}
use Rattle.rf_parser.proofs.PredicateParts.{a_tail, literal_case, negated_case}
use Rattle.rf_parser.proofs.Singles.{starts_first, starts_parsed}
use Rattle.rf_parser.proofs.Wholes.{passed_on, parsed_as, parsed_next, returned, stuck_as, stuck_next, stuck_start}
use Rattle.rf_parser.proofs.predicates.BodyLiteralPart.parse.Goals as goal

pub returns-in_err-name-clause-stop : goal.returns-in_err-name-clause-stop
returns-in_err-name-clause-stop c = returned _ c.from_residual.ensures.1 (passed_on c.in_err-name.ensures.stop (λ left h.
    stuck_as (negated_case _ (starts_first c.in-Some.ensures.found)) (stuck_next (starts_parsed c.in-Some.ensures.found) (stuck_start call_tail_pieces a_tail h))))

pub returns-in_err-tail-clause-stop : goal.returns-in_err-tail-clause-stop
returns-in_err-tail-clause-stop c = returned _ c.from_residual-in_err-tail.ensures.1 (passed_on c.in_err-tail.ensures.stop (λ left h.
    stuck_as (negated_case _ (starts_first c.in-Some.ensures.found)) (stuck_next (starts_parsed c.in-Some.ensures.found) (stuck_next c.in_ok-name.ensures.ok h))))

pub returns-in-Some-clause-ok : goal.returns-in-Some-clause-ok
returns-in-Some-clause-ok c = rw c.call_of.ensures
    (parsed_as (negated_case _ (starts_first c.in-Some.ensures.found)) (parsed_next (starts_parsed c.in-Some.ensures.found) (parsed_next c.in_ok-name.ensures.ok c.in_ok-tail.ensures.ok)))

pub returns-in_err-left-clause-stop : goal.returns-in_err-left-clause-stop
returns-in_err-left-clause-stop c = returned _ c.from_residual-in_err-left.ensures.1 (passed_on c.in_err-left.ensures.stop (λ left h.
    stuck_as (literal_case _ c.in_default.ensures.none) (stuck_start literal_tail_pieces (Call a_tail) h)))

pub returns-in_err-tail-2-clause-stop : goal.returns-in_err-tail-2-clause-stop
returns-in_err-tail-2-clause-stop c = returned _ c.from_residual-in_err-tail-2.ensures.1 (passed_on c.in_err-tail-2.ensures.stop (λ left h.
    stuck_as (literal_case _ c.in_default.ensures.none) (stuck_next c.in_ok-left.ensures.ok h)))

pub returns-clause-ok : goal.returns-clause-ok
returns-clause-ok c = rw c.literal_of.ensures (parsed_as (literal_case _ c.in_default.ensures.none) (parsed_next c.in_ok-left.ensures.ok c.in_ok-tail-2.ensures.ok))
