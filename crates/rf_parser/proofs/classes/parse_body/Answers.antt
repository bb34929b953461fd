use Rattle.std.specs.List.{flat_map}
use Rattle.rf_syntax.specs.Class.{feature_pieces}
use Rattle.rf_parser.proofs.ListParts.{brace_case, dot_case}
use Rattle.rf_parser.proofs.Singles.{starts_first, starts_parsed}
use Rattle.rf_parser.proofs.Wholes.{passed_on, parsed_as, parsed_next, returned, stuck_as, stuck_next}
use Rattle.rf_parser.proofs.classes.parse_body.Goals as goal

pub returns-in_err-features-clause-stop : goal.returns-in_err-features-clause-stop
returns-in_err-features-clause-stop c = returned _ c.from_residual.ensures.1 (passed_on c.in_err-features.ensures.stop (λ left h.
    stuck_as (brace_case (flat_map feature_pieces) _ (starts_first c.in-Some.ensures.found)) (stuck_next (starts_parsed c.in-Some.ensures.found) h)))

pub returns-in-Some-clause-ok : goal.returns-in-Some-clause-ok
returns-in-Some-clause-ok c =
    parsed_as (brace_case (flat_map feature_pieces) _ (starts_first c.in-Some.ensures.found)) (parsed_next (starts_parsed c.in-Some.ensures.found) c.in_ok-features.ensures.ok)

pub returns-in_err-rest-clause-stop : goal.returns-in_err-rest-clause-stop
returns-in_err-rest-clause-stop c =
    returned _ c.from_residual-in_err-rest.ensures.1 (passed_on c.in_err-rest.ensures.stop (λ left h. stuck_as (dot_case (flat_map feature_pieces) _ c.in_default.ensures.none) h))

pub returns-clause-ok : goal.returns-clause-ok
returns-clause-ok c = parsed_as (dot_case (flat_map feature_pieces) _ c.in_default.ensures.none) c.in_ok-rest.ensures.ok
