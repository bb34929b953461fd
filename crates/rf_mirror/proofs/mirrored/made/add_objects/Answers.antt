use Rattle.std.proofs.Common.{◌∙◌, arith}
use Rattle.rf_vstate.specs.Meaning.{current}
use Rattle.rf_mirror.proofs.mirrored.made.add_objects.Goals as goal

pub loop-o-preserved : goal.loop-o-preserved
loop-o-preserved c =
    let less = c.loop-o-test.true in
    let end = c.objects-o-end.ensures in
    (c.add.ensures.right (current c.args.inner.now) c.loop-o.invariant.0 (omega (arith, less, end)) c.object_of.ensures, c.add.ensures.kept ∙ c.loop-o.invariant.1)
