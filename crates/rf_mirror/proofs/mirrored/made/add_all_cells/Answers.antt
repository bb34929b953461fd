use Rattle.std.proofs.Common.{◌<◌, ◌∙◌, length, arith}
use Rattle.rf_vstate.specs.Meaning.{current}
use Rattle.rf_mirror.proofs.mirrored.made.add_all_cells.Goals as goal

pub loop-o-preserved : goal.loop-o-preserved
loop-o-preserved c =
    let less = c.loop-o-test.true in
    let end = c.objects-o-end.ensures in
    let there : c.loop-o.o < length (current c.args.inner.now).objects = omega (arith, less, end) in
    let told = rw c.problem.ensures at c.add_cells.ensures.told in
    (told (current c.args.inner.now) c.requires.asserted there there c.loop-o.invariant.0, c.add_cells.ensures.kept ∙ c.loop-o.invariant.1)
