use Rattle.rf_syntax.specs.Name.{name_pieces}
use Rattle.rf_parser.specs.Private.Parts.{list_to_dot}
use Rattle.rf_parser.proofs.NameParts.{a_name}
use Rattle.rf_parser.proofs.StatementParts.{a_list, atoms_case}
use Rattle.rf_parser.proofs.Wholes.{passed_on, parsed_as, parsed_next, returned, stuck_as, stuck_next, stuck_start}
use Rattle.rf_parser.proofs.statements.parse_atoms.Goals as goal

pub returns-in_err-rest-clause-stop : goal.returns-in_err-rest-clause-stop
returns-in_err-rest-clause-stop c =
    returned _ c.from_residual.ensures.1 (passed_on c.in_err-rest.ensures.stop (λ left h. stuck_as (atoms_case _ c.requires) (stuck_start (list_to_dot name_pieces) (a_list a_name) h)))

pub returns-in_err-names-clause-stop : goal.returns-in_err-names-clause-stop
returns-in_err-names-clause-stop c =
    returned _ c.from_residual-in_err-names.ensures.1 (passed_on c.in_err-names.ensures.stop (λ left h. stuck_as (atoms_case _ c.requires) (stuck_next c.in_ok-rest.ensures.ok h)))

pub returns-clause-ok : goal.returns-clause-ok
returns-clause-ok c = parsed_as (atoms_case _ c.requires) (parsed_next c.in_ok-rest.ensures.ok c.in_ok-names.ensures.ok)
