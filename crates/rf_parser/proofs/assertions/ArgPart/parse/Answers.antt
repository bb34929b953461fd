use Rattle.rf_parser.proofs.AssertionParts.{star_arg, symbol_arg}
use Rattle.rf_parser.proofs.Singles.{starts_first, starts_parsed}
use Rattle.rf_parser.proofs.Wholes.{passed_on, parsed_as, returned, stuck_as}
use Rattle.rf_parser.proofs.assertions.ArgPart.parse.Goals as goal

pub returns-in-Some-clause-ok : goal.returns-in-Some-clause-ok
returns-in-Some-clause-ok c = parsed_as (star_arg _ (starts_first c.in-Some.ensures.found)) (starts_parsed c.in-Some.ensures.found)

pub returns-in_err-symbol-clause-stop : goal.returns-in_err-symbol-clause-stop
returns-in_err-symbol-clause-stop c =
    returned _ c.from_residual.ensures.1 (passed_on c.in_err-symbol.ensures.stop (λ left h. stuck_as (symbol_arg _ c.in_default.ensures.none) h))

pub returns-clause-ok : goal.returns-clause-ok
returns-clause-ok c = parsed_as (symbol_arg _ c.in_default.ensures.none) c.in_ok-symbol.ensures.ok
