use Rattle.rf_parser.proofs.RangeParts.{mult_empty, mult_parsed, mult_stuck, mult_stuck_end, mult_stuck_range}
use Rattle.rf_parser.proofs.Wholes.{passed_on, returned}
use Rattle.rf_parser.proofs.ranges.MultPart.parse.Goals as goal

pub returns-in_err-inner-clause-stop : goal.returns-in_err-inner-clause-stop
returns-in_err-inner-clause-stop c = returned _ c.from_residual.ensures.1 (passed_on c.in_err-inner.ensures.stop (λ left h. mult_stuck h))

pub returns-in-Some-clause-ok : goal.returns-in-Some-clause-ok
returns-in-Some-clause-ok c = mult_empty c.in_ok-inner.ensures.ok c.in-Some.ensures.found

pub returns-in_err-range-clause-stop : goal.returns-in_err-range-clause-stop
returns-in_err-range-clause-stop c =
    returned _ c.from_residual-in_err-range.ensures.1 (passed_on c.in_err-range.ensures.stop (λ left h. mult_stuck_range c.in_ok-inner.ensures.ok c.in_default.ensures.none h))

pub returns-in_err-rest-clause-stop : goal.returns-in_err-rest-clause-stop
returns-in_err-rest-clause-stop c =
    returned _ c.from_residual-in_err-rest.ensures.1 (passed_on c.in_err-rest.ensures.stop (λ left h. mult_stuck_end c.in_ok-inner.ensures.ok c.in_default.ensures.none c.in_ok-range.ensures.ok h))

pub returns-clause-ok : goal.returns-clause-ok
returns-clause-ok c = mult_parsed c.in_ok-inner.ensures.ok c.in_default.ensures.none c.in_ok-range.ensures.ok c.in_ok-rest.ensures.ok
