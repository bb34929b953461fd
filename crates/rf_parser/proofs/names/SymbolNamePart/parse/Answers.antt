use Rattle.std.proofs.Common.{None}
use Rattle.rf_syntax.specs.Name.{name_pieces}
use Rattle.rf_syntax.specs.Parts.{optional_after}
use Rattle.rf_syntax.specs.Terminals.{colon_colon}
use Rattle.rf_parser.proofs.NameParts.{symbol_case}
use Rattle.rf_parser.proofs.Wholes.{passed_on, parsed_as, parsed_next, returned, stuck_as, stuck_next, stuck_start}
use Rattle.rf_parser.proofs.names.SymbolNamePart.parse.Goals as goal

pub returns-in_err-name-clause-stop : goal.returns-in_err-name-clause-stop
returns-in_err-name-clause-stop c = returned _ c.from_residual.ensures.1 (passed_on c.in_err-name.ensures.stop (λ left h.
    stuck_as (symbol_case _) (stuck_start (optional_after colon_colon name_pieces) None h)))

pub returns-in_err-member-clause-stop : goal.returns-in_err-member-clause-stop
returns-in_err-member-clause-stop c = returned _ c.from_residual-in_err-member.ensures.1 (passed_on c.in_err-member.ensures.stop (λ left h.
    stuck_as (symbol_case _) (stuck_next c.in_ok-name.ensures.ok h)))

pub returns-clause-ok : goal.returns-clause-ok
returns-clause-ok c = parsed_as (symbol_case _) (parsed_next c.in_ok-name.ensures.ok c.in_ok-member.ensures.ok)
