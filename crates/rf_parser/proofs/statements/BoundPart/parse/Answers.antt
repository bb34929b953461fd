use Rattle.std.proofs.Common.{true}
use Rattle.rf_syntax.specs.Range.{range_pieces}
use Rattle.rf_parser.specs.Private.Parts.{bound_mark}
use Rattle.rf_parser.proofs.StatementParts.{a_range, bound_case}
use Rattle.rf_parser.proofs.Wholes.{pair, passed_on, parsed_as, parsed_next, returned, stuck_as, stuck_next, stuck_start}
use Rattle.rf_parser.proofs.statements.BoundPart.parse.Goals as goal

pub returns-in_err-name-clause-stop : goal.returns-in_err-name-clause-stop
returns-in_err-name-clause-stop c = returned _ c.from_residual.ensures.1 (passed_on c.in_err-name.ensures.stop (λ left h.
    stuck_as (bound_case _) (stuck_start (pair bound_mark range_pieces) (true, a_range) h)))

pub returns-in_err-only_new-clause-stop : goal.returns-in_err-only_new-clause-stop
returns-in_err-only_new-clause-stop c = returned _ c.from_residual-in_err-only_new.ensures.1 (passed_on c.in_err-only_new.ensures.stop (λ left h.
    stuck_as (bound_case _) (stuck_next c.in_ok-name.ensures.ok (stuck_start range_pieces a_range h))))

pub returns-in_err-range-clause-stop : goal.returns-in_err-range-clause-stop
returns-in_err-range-clause-stop c = returned _ c.from_residual-in_err-range.ensures.1 (passed_on c.in_err-range.ensures.stop (λ left h.
    stuck_as (bound_case _) (stuck_next c.in_ok-name.ensures.ok (stuck_next c.in_ok-only_new.ensures.ok h))))

pub returns-clause-ok : goal.returns-clause-ok
returns-clause-ok c =
    parsed_as (bound_case _) (parsed_next c.in_ok-name.ensures.ok (parsed_next c.in_ok-only_new.ensures.ok c.in_ok-range.ensures.ok))
