use Rattle.std.proofs.Common.{arith}
use Rattle.rf_satisfy.proofs.SuspectLemmas.{strays-ended, strays-more}
use Rattle.rf_satisfy.proofs.kinds.asserted.first_literal.Goals as goal

pub loop-object-preserved : goal.loop-object-preserved
loop-object-preserved c = record {
  kept = c.first_of_literal.ensures.kept;
  first = rw c.earlier-first.ensures
      (strays-more c.args.index.now.problem c.args.index.now.graph c.args.class c.loop-object.object c.loop-object.first c.loop-object.invariant.first
      c.in_ok-first_of_literal.field-0 c.in_ok-first_of_literal.ensures.first);
}

pub returns-clause-first : goal.returns-clause-first
returns-clause-first c = strays-ended c.args.index.now.problem c.args.index.now.graph c.args.class c.objects-object-end.result c.loop-object.object c.loop-object.first
    c.objects-object-end.ensures.count c.objects-object-end.ensures.origins (omega (arith, c.loop-object-test.false)) c.loop-object.invariant.first
