use Rattle.rf_parser.proofs.Optionals.{after_parsed, after_stuck, after_none}
use Rattle.rf_parser.proofs.Wholes.{passed_on, returned}
use Rattle.rf_parser.proofs.lists.parse_optional_after.Goals as goal

pub returns-in_err-part-in-Some-clause-stop : goal.returns-in_err-part-in-Some-clause-stop
returns-in_err-part-in-Some-clause-stop g c =
    returned _ c.from_residual.ensures.1 (passed_on c.in_err-part-in-Some.ensures.stop (λ left h. after_stuck c.in-Some.ensures.found h))

pub returns-in_ok-part-in-Some-clause-ok : goal.returns-in_ok-part-in-Some-clause-ok
returns-in_ok-part-in-Some-clause-ok g c = after_parsed c.in-Some.ensures.found c.in_ok-part-in-Some.ensures.ok

pub returns-in-None-clause-ok : goal.returns-in-None-clause-ok
returns-in-None-clause-ok g c = after_none c.in-None.ensures.none
