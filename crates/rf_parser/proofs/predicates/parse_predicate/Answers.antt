use Rattle.std.proofs.Common.{[]}
use Rattle.rf_syntax.specs.Terminals.{dot}
use Rattle.rf_parser.specs.Private.Parts.{single}
use Rattle.rf_parser.proofs.NameParts.{a_name}
use Rattle.rf_parser.proofs.PredicateParts.{a_body, clauses_apart, param_begins, predicate_body, predicate_case, predicate_end, predicate_named, predicate_rest, start_apart}
use Rattle.rf_parser.proofs.Wholes.{passed_on, parsed_as, parsed_next, parsed_then, returned, stuck_as, stuck_first, stuck_next, stuck_start, stuck_then}
use Rattle.rf_parser.proofs.predicates.parse_predicate.Goals as goal

pub returns-in_err-start-clause-stop : goal.returns-in_err-start-clause-stop
returns-in_err-start-clause-stop c = returned _ c.from_residual.ensures.1 (passed_on c.in_err-start.ensures.stop (λ left h.
    stuck_as (predicate_case _ c.requires) (stuck_first predicate_named (a_name, ([], (tt, (a_body, tt)))) start_apart h)))

pub returns-in_err-name-clause-stop : goal.returns-in_err-name-clause-stop
returns-in_err-name-clause-stop c = returned _ c.from_residual-in_err-name.ensures.1 (passed_on c.in_err-name.ensures.stop (λ left h.
    stuck_as (predicate_case _ c.requires) (stuck_then start_apart c.in_ok-start.ensures.ok (stuck_start predicate_rest ([], (tt, (a_body, tt))) h))))

pub parse_in_parens-requires-clause-begins : goal.parse_in_parens-requires-clause-begins
parse_in_parens-requires-clause-begins c = param_begins

pub returns-in_err-params-clause-stop : goal.returns-in_err-params-clause-stop
returns-in_err-params-clause-stop c = returned _ c.from_residual-in_err-params.ensures.1 (passed_on c.in_err-params.ensures.stop (λ left h.
    stuck_as (predicate_case _ c.requires) (stuck_then start_apart c.in_ok-start.ensures.ok (stuck_next c.in_ok-name.ensures.ok (stuck_start predicate_body (tt, (a_body, tt)) h)))))

pub returns-in_err-rest-clause-stop : goal.returns-in_err-rest-clause-stop
returns-in_err-rest-clause-stop c = returned _ c.from_residual-in_err-rest.ensures.1 (passed_on c.in_err-rest.ensures.stop (λ left h.
    stuck_as (predicate_case _ c.requires) (stuck_then start_apart c.in_ok-start.ensures.ok (stuck_next c.in_ok-name.ensures.ok (stuck_next c.in_ok-params.ensures.ok
    (stuck_start predicate_end (a_body, tt) h))))))

pub returns-in_err-clauses-clause-stop : goal.returns-in_err-clauses-clause-stop
returns-in_err-clauses-clause-stop c = returned _ c.from_residual-in_err-clauses.ensures.1 (passed_on c.in_err-clauses.ensures.stop (λ left h.
    stuck_as (predicate_case _ c.requires) (stuck_then start_apart c.in_ok-start.ensures.ok (stuck_next c.in_ok-name.ensures.ok (stuck_next c.in_ok-params.ensures.ok
    (stuck_next c.in_ok-rest.ensures.ok (stuck_first (single dot) tt clauses_apart h)))))))

pub returns-in_err-rest-2-clause-stop : goal.returns-in_err-rest-2-clause-stop
returns-in_err-rest-2-clause-stop c = returned _ c.from_residual-in_err-rest-2.ensures.1 (passed_on c.in_err-rest-2.ensures.stop (λ left h.
    stuck_as (predicate_case _ c.requires) (stuck_then start_apart c.in_ok-start.ensures.ok (stuck_next c.in_ok-name.ensures.ok (stuck_next c.in_ok-params.ensures.ok
    (stuck_next c.in_ok-rest.ensures.ok (stuck_then clauses_apart c.in_ok-clauses.ensures.ok h)))))))

pub returns-clause-ok : goal.returns-clause-ok
returns-clause-ok c =
    parsed_as (predicate_case _ c.requires) (parsed_then start_apart c.in_ok-start.ensures.ok (parsed_next c.in_ok-name.ensures.ok (parsed_next c.in_ok-params.ensures.ok
    (parsed_next c.in_ok-rest.ensures.ok (parsed_then clauses_apart c.in_ok-clauses.ensures.ok c.in_ok-rest-2.ensures.ok)))))
