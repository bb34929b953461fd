use Rattle.rf_syntax.specs.Statement.{bound_pieces}
use Rattle.rf_parser.specs.Private.Parts.{list_to_dot}
use Rattle.rf_parser.proofs.StatementParts.{a_bound, a_list, scope_case}
use Rattle.rf_parser.proofs.Wholes.{passed_on, parsed_as, parsed_next, returned, stuck_as, stuck_next, stuck_start}
use Rattle.rf_parser.proofs.statements.parse_scope.Goals as goal

pub returns-in_err-rest-clause-stop : goal.returns-in_err-rest-clause-stop
returns-in_err-rest-clause-stop c =
    returned _ c.from_residual.ensures.1 (passed_on c.in_err-rest.ensures.stop (λ left h. stuck_as (scope_case _ c.requires) (stuck_start (list_to_dot bound_pieces) (a_list a_bound) h)))

pub returns-in_err-bounds-clause-stop : goal.returns-in_err-bounds-clause-stop
returns-in_err-bounds-clause-stop c =
    returned _ c.from_residual-in_err-bounds.ensures.1 (passed_on c.in_err-bounds.ensures.stop (λ left h. stuck_as (scope_case _ c.requires) (stuck_next c.in_ok-rest.ensures.ok h)))

pub returns-clause-ok : goal.returns-clause-ok
returns-clause-ok c = parsed_as (scope_case _ c.requires) (parsed_next c.in_ok-rest.ensures.ok c.in_ok-bounds.ensures.ok)
