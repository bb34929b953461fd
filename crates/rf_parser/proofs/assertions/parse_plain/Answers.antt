use Rattle.std.proofs.Common.{None}
use Rattle.rf_syntax.specs.Assertion.{value_pieces}
use Rattle.rf_syntax.specs.Parts.{optional_after}
use Rattle.rf_syntax.specs.Terminals.{colon}
use Rattle.rf_parser.proofs.AssertionParts.{plain_case}
use Rattle.rf_parser.proofs.Wholes.{passed_on, parsed_as, parsed_next, returned, stuck_as, stuck_next, stuck_start}
use Rattle.rf_parser.proofs.assertions.parse_plain.Goals as goal

pub returns-in_err-atom-clause-stop : goal.returns-in_err-atom-clause-stop
returns-in_err-atom-clause-stop c = returned _ c.from_residual.ensures.1 (passed_on c.in_err-atom.ensures.stop (λ left h.
    stuck_as (plain_case _ c.requires.bang c.requires.question) (stuck_start (optional_after colon value_pieces) None h)))

pub returns-in_err-value-clause-stop : goal.returns-in_err-value-clause-stop
returns-in_err-value-clause-stop c = returned _ c.from_residual-in_err-value.ensures.1 (passed_on c.in_err-value.ensures.stop (λ left h.
    stuck_as (plain_case _ c.requires.bang c.requires.question) (stuck_next c.in_ok-atom.ensures.ok h)))

pub returns-in-Some-clause-ok : goal.returns-in-Some-clause-ok
returns-in-Some-clause-ok c =
    parsed_as (plain_case _ c.requires.bang c.requires.question) (parsed_next c.in_ok-atom.ensures.ok (rw c.in-Some.is at c.in_ok-value.ensures.ok))

pub returns-in-None-clause-ok : goal.returns-in-None-clause-ok
returns-in-None-clause-ok c =
    parsed_as (plain_case _ c.requires.bang c.requires.question) (parsed_next c.in_ok-atom.ensures.ok (rw c.in-None.is at c.in_ok-value.ensures.ok))
