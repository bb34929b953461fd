use Rattle.rf_lexer.specs.declared.mark.Mark.TheVariants.{RightBrace}
use Rattle.rf_syntax.specs.Name.{name_pieces}
use Rattle.rf_syntax.specs.Parts.{separated_or_none}
use Rattle.rf_syntax.specs.Terminals.{comma}
use Rattle.rf_parser.proofs.ListParts.{brace_case, dot_case}
use Rattle.rf_parser.proofs.NameParts.{name_begins}
use Rattle.rf_parser.proofs.Singles.{starts_first, starts_parsed}
use Rattle.rf_parser.proofs.Wholes.{passed_on, parsed_as, parsed_next, returned, stuck_as, stuck_next}
use Rattle.rf_parser.proofs.enums.parse_literals.Goals as goal

pub parse_listed_to-requires-clause-begins : goal.parse_listed_to-requires-clause-begins
parse_listed_to-requires-clause-begins c = name_begins RightBrace

pub returns-in_err-literals-clause-stop : goal.returns-in_err-literals-clause-stop
returns-in_err-literals-clause-stop c = returned _ c.from_residual.ensures.1 (passed_on c.in_err-literals.ensures.stop (λ left h.
    stuck_as (brace_case (separated_or_none comma name_pieces) _ (starts_first c.in-Some.ensures.found)) (stuck_next (starts_parsed c.in-Some.ensures.found) h)))

pub returns-in-Some-clause-ok : goal.returns-in-Some-clause-ok
returns-in-Some-clause-ok c =
    parsed_as (brace_case (separated_or_none comma name_pieces) _ (starts_first c.in-Some.ensures.found))
    (parsed_next (starts_parsed c.in-Some.ensures.found) c.in_ok-literals.ensures.ok)

pub returns-in_err-rest-clause-stop : goal.returns-in_err-rest-clause-stop
returns-in_err-rest-clause-stop c = returned _ c.from_residual-in_err-rest.ensures.1 (passed_on c.in_err-rest.ensures.stop (λ left h.
    stuck_as (dot_case (separated_or_none comma name_pieces) _ c.in_default.ensures.none) h))

pub returns-clause-ok : goal.returns-clause-ok
returns-clause-ok c = parsed_as (dot_case (separated_or_none comma name_pieces) _ c.in_default.ensures.none) c.in_ok-rest.ensures.ok
