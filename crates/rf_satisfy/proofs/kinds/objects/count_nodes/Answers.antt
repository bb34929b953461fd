use Rattle.std.proofs.Common.{◌≡◌, ◌<◌, ◌==◌, ap, arith, length, ◌∙◌}
use Rattle.std.proofs.lemmas.List.{length-replicate}
use Rattle.rf_finite.proofs.Range.{count_below-le_bound}
use Rattle.rf_graph.specs.Graph.{no_node, origin_of}
use Rattle.rf_satisfy.proofs.kinds.objects.count_nodes.Goals as goal

pub overflow_add-counts : goal.overflow_add-counts
overflow_add-counts c =
    let size : length c.loop-node.counts ≡ length c.args.problem.now.objects =
    c.loop-node.auto.counts ∙ ap length c.requires.zeros ∙ length-replicate (length c.args.problem.now.objects) 0 in
    let origin = (c.requires.fits.nodes c.loop-node.node no_node (omega arith)).origin in
    let bound : c.origin_of-object.result < length c.loop-node.counts = omega (arith, size, origin, c.origin_of-object.ensures) in
    omega (arith, c.loop-node.invariant.counted c.origin_of-object.result bound, count_below-le_bound c.loop-node.node (λ x. origin_of c.args.graph.now x == c.origin_of-object.result))
