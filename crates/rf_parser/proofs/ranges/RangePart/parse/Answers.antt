use Rattle.rf_parser.proofs.RangeParts.{range_parsed, range_stuck, range_stuck_after}
use Rattle.rf_parser.proofs.Wholes.{passed_on, returned, stops}
use Rattle.rf_parser.proofs.ranges.RangePart.parse.Goals as goal

pub returns-in_default-clause-stop : goal.returns-in_default-clause-stop
returns-in_default-clause-stop c = stops (range_stuck c.in_default.ensures.none)

pub returns-in_err-hi-clause-stop : goal.returns-in_err-hi-clause-stop
returns-in_err-hi-clause-stop c = returned _ c.from_residual.ensures.1 (passed_on c.in_err-hi.ensures.stop (λ left h. range_stuck_after c.in-Some.ensures.found h))

pub returns-clause-ok : goal.returns-clause-ok
returns-clause-ok c = range_parsed c.in-Some.ensures.found c.in_ok-hi.ensures.ok
