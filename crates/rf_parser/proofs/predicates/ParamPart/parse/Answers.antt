use Rattle.std.proofs.Common.{None}
use Rattle.rf_syntax.specs.Name.{name_pieces}
use Rattle.rf_syntax.specs.Parts.{optional}
use Rattle.rf_parser.proofs.PredicateParts.{param_case}
use Rattle.rf_parser.proofs.Wholes.{passed_on, parsed_as, parsed_next, returned, stuck_as, stuck_next, stuck_start}
use Rattle.rf_parser.proofs.predicates.ParamPart.parse.Goals as goal

pub returns-in_err-first-clause-stop : goal.returns-in_err-first-clause-stop
returns-in_err-first-clause-stop c =
    returned _ c.from_residual.ensures.1 (passed_on c.in_err-first.ensures.stop (λ left h. stuck_as (param_case _) (stuck_start (optional name_pieces) None h)))

pub returns-in_err-second-clause-stop : goal.returns-in_err-second-clause-stop
returns-in_err-second-clause-stop c =
    returned _ c.from_residual-in_err-second.ensures.1 (passed_on c.in_err-second.ensures.stop (λ left h. stuck_as (param_case _) (stuck_next c.in_ok-first.ensures.ok h)))

pub returns-in-Some-clause-ok : goal.returns-in-Some-clause-ok
returns-in-Some-clause-ok c = parsed_as (param_case _) (parsed_next c.in_ok-first.ensures.ok (rw c.in-Some.is at c.in_ok-second.ensures.ok))

pub returns-in-None-clause-ok : goal.returns-in-None-clause-ok
returns-in-None-clause-ok c = parsed_as (param_case _) (parsed_next c.in_ok-first.ensures.ok (rw c.in-None.is at c.in_ok-second.ensures.ok))
