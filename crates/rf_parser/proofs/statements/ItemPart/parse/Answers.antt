use Rattle.std.proofs.Common.{None}
use Rattle.rf_syntax.specs.Parts.{optional_after}
use Rattle.rf_syntax.specs.Range.{range_pieces}
use Rattle.rf_syntax.specs.Terminals.{equal}
use Rattle.rf_parser.proofs.StatementParts.{item_case}
use Rattle.rf_parser.proofs.Wholes.{passed_on, parsed_as, parsed_next, returned, stuck_as, stuck_next, stuck_start}
use Rattle.rf_parser.proofs.statements.ItemPart.parse.Goals as goal

pub returns-in_err-name-clause-stop : goal.returns-in_err-name-clause-stop
returns-in_err-name-clause-stop c = returned _ c.from_residual.ensures.1 (passed_on c.in_err-name.ensures.stop (λ left h.
    stuck_as (item_case _) (stuck_start (optional_after equal range_pieces) None h)))

pub returns-in_err-range-clause-stop : goal.returns-in_err-range-clause-stop
returns-in_err-range-clause-stop c = returned _ c.from_residual-in_err-range.ensures.1 (passed_on c.in_err-range.ensures.stop (λ left h.
    stuck_as (item_case _) (stuck_next c.in_ok-name.ensures.ok h)))

pub returns-clause-ok : goal.returns-clause-ok
returns-clause-ok c = parsed_as (item_case _) (parsed_next c.in_ok-name.ensures.ok c.in_ok-range.ensures.ok)
