use Rattle.rf_syntax.specs.Terminals.{dot}
use Rattle.rf_parser.specs.Private.Parts.{single}
use Rattle.rf_parser.proofs.StatementParts.{dot_after, list_case}
use Rattle.rf_parser.proofs.Wholes.{passed_on, parsed_as, parsed_then, returned, stuck_as, stuck_first, stuck_then}
use Rattle.rf_parser.proofs.statements.parse_list.Goals as goal

pub returns-in_err-parts-clause-stop : goal.returns-in_err-parts-clause-stop
returns-in_err-parts-clause-stop g c = returned _ c.from_residual.ensures.1 (passed_on c.in_err-parts.ensures.stop (λ left h.
    stuck_as (list_case g.T.Part.pieces g.T.Part.longer _) (stuck_first (single dot) tt (dot_after g.T.Part.pieces g.T.Part.longer c.requires.dot) h)))

pub returns-in_err-rest-clause-stop : goal.returns-in_err-rest-clause-stop
returns-in_err-rest-clause-stop g c = returned _ c.from_residual-in_err-rest.ensures.1 (passed_on c.in_err-rest.ensures.stop (λ left h.
    stuck_as (list_case g.T.Part.pieces g.T.Part.longer _) (stuck_then (dot_after g.T.Part.pieces g.T.Part.longer c.requires.dot) c.in_ok-parts.ensures.ok h)))

pub returns-clause-ok : goal.returns-clause-ok
returns-clause-ok g c =
    parsed_as (list_case g.T.Part.pieces g.T.Part.longer _) (parsed_then (dot_after g.T.Part.pieces g.T.Part.longer c.requires.dot) c.in_ok-parts.ensures.ok c.in_ok-rest.ensures.ok)
