use Rattle.std.proofs.Common.{arith}
use Rattle.rf_satisfy.proofs.PeelingLemmas.{IsPeeling-none, off_cycles-all}
use Rattle.rf_satisfy.proofs.kinds.peeling.off_cycles.Goals as goal

pub loop-start-init : goal.loop-start-init
loop-start-init c = record {
  peeling = IsPeeling-none c.args.containers.now c.in_ok-contents.contents.items c.in_ok-peeled.peeled.items (omega (arith, c.in_ok-contents.ensures.len)) c.in_ok-peeled.ensures
      c.in_ok-contents.ensures.counts;
  all = λ x l. absurd (omega arith);
}

pub returns-clause-marks : goal.returns-clause-marks
returns-clause-marks c = off_cycles-all c.args.containers.now c.loop-start.contents.items c.loop-start.peeled.items c.loop-start.invariant.peeling
    (λ x l. c.loop-start.invariant.all x (let done = c.loop-start-test.false in omega arith))
