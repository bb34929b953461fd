use Rattle.rf_parser.specs.Private.Parts.{single}
use Rattle.rf_syntax.specs.Terminals.{dot}
use Rattle.rf_parser.proofs.AssertionParts.{assert_case, default_apart, dot_apart}
use Rattle.rf_parser.proofs.Wholes.{passed_on, parsed_as, parsed_then, returned, stuck_as, stuck_first, stuck_then}
use Rattle.rf_parser.proofs.assertions.parse_assert.Goals as goal

pub returns-in_err-assertion-clause-stop : goal.returns-in_err-assertion-clause-stop
returns-in_err-assertion-clause-stop c = returned _ c.from_residual.ensures.1 (passed_on c.in_err-assertion.ensures.stop (λ left h.
    stuck_as (assert_case _ c.requires) (stuck_then default_apart c.flag-is_default.ensures (stuck_first (single dot) tt dot_apart h))))

pub returns-in_err-rest-clause-stop : goal.returns-in_err-rest-clause-stop
returns-in_err-rest-clause-stop c = returned _ c.from_residual-in_err-rest.ensures.1 (passed_on c.in_err-rest.ensures.stop (λ left h.
    stuck_as (assert_case _ c.requires) (stuck_then default_apart c.flag-is_default.ensures (stuck_then dot_apart c.in_ok-assertion.ensures.ok h))))

pub returns-clause-ok : goal.returns-clause-ok
returns-clause-ok c = parsed_as (assert_case _ c.requires) (parsed_then default_apart c.flag-is_default.ensures (parsed_then dot_apart c.in_ok-assertion.ensures.ok c.in_ok-rest.ensures.ok))
