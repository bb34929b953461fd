use Rattle.std.proofs.Common.{[]}
use Rattle.rf_syntax.specs.Terminals.{right_paren}
use Rattle.rf_parser.specs.Private.Parts.{listed_to}
use Rattle.rf_parser.proofs.ListParts.{parens_case}
use Rattle.rf_parser.proofs.Wholes.{passed_on, parsed_as, parsed_next, returned, stuck_as, stuck_next, stuck_start}
use Rattle.rf_parser.proofs.lists.parse_in_parens.Goals as goal

pub returns-in_err-inner-clause-stop : goal.returns-in_err-inner-clause-stop
returns-in_err-inner-clause-stop g c = returned _ c.from_residual.ensures.1 (passed_on c.in_err-inner.ensures.stop (λ left h.
    stuck_as (parens_case g.T.Part.pieces _) (stuck_start (listed_to right_paren g.T.Part.pieces) [] h)))

pub returns-in_err-parts-clause-stop : goal.returns-in_err-parts-clause-stop
returns-in_err-parts-clause-stop g c = returned _ c.from_residual-in_err-parts.ensures.1 (passed_on c.in_err-parts.ensures.stop (λ left h.
    stuck_as (parens_case g.T.Part.pieces _) (stuck_next c.in_ok-inner.ensures.ok h)))

pub returns-clause-ok : goal.returns-clause-ok
returns-clause-ok g c = parsed_as (parens_case g.T.Part.pieces _) (parsed_next c.in_ok-inner.ensures.ok c.in_ok-parts.ensures.ok)
