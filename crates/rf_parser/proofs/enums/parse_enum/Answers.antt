use Rattle.std.proofs.Common.{None}
use Rattle.rf_syntax.specs.Enum.{enum_body_pieces}
use Rattle.rf_parser.proofs.EnumParts.{enum_case, enum_rest}
use Rattle.rf_parser.proofs.NameParts.{a_name}
use Rattle.rf_parser.proofs.Wholes.{passed_on, parsed_as, parsed_next, returned, stuck_as, stuck_next, stuck_start}
use Rattle.rf_parser.proofs.enums.parse_enum.Goals as goal

pub returns-in_err-rest-clause-stop : goal.returns-in_err-rest-clause-stop
returns-in_err-rest-clause-stop c = returned _ c.from_residual.ensures.1 (passed_on c.in_err-rest.ensures.stop (λ left h.
    stuck_as (enum_case _ c.requires) (stuck_start enum_rest (a_name, None) h)))

pub returns-in_err-name-clause-stop : goal.returns-in_err-name-clause-stop
returns-in_err-name-clause-stop c = returned _ c.from_residual-in_err-name.ensures.1 (passed_on c.in_err-name.ensures.stop (λ left h.
    stuck_as (enum_case _ c.requires) (stuck_next c.in_ok-rest.ensures.ok (stuck_start enum_body_pieces None h))))

pub returns-in_err-literals-clause-stop : goal.returns-in_err-literals-clause-stop
returns-in_err-literals-clause-stop c = returned _ c.from_residual-in_err-literals.ensures.1 (passed_on c.in_err-literals.ensures.stop (λ left h.
    stuck_as (enum_case _ c.requires) (stuck_next c.in_ok-rest.ensures.ok (stuck_next c.in_ok-name.ensures.ok h))))

pub returns-clause-ok : goal.returns-clause-ok
returns-clause-ok c = parsed_as (enum_case _ c.requires) (parsed_next c.in_ok-rest.ensures.ok (parsed_next c.in_ok-name.ensures.ok c.in_ok-literals.ensures.ok))
