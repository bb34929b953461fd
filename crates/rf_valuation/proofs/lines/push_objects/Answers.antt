use Rattle.rf_valuation.proofs.NameLemmas.{names-more}
use Rattle.rf_valuation.proofs.lines.push_objects.Goals as goal

pub loop-number-preserved : goal.loop-number-preserved
loop-number-preserved c =
    names-more c.args.problem.now c.args.objects.now c.loop-number.number _ c.args.out.now c.loop-number.out _ _ c.loop-number-test.true c.loop-number.invariant
    c.in_ok-push_separator.ensures c.in_ok-push_object.ensures.ok
