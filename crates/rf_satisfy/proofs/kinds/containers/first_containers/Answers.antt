use Rattle.std.proofs.Common.{◌<◌, ap, ◌∙◌, sym, arith}
use Rattle.std.specs.FinSet.{contains}
use Rattle.std.proofs.lemmas.List.{get_or_read}
use Rattle.rf_graph.specs.First.{is_wrongly_contained}
use Rattle.rf_graph.specs.Graph.{class_of, size_of}
use Rattle.rf_graph.specs.declared.verdict.Violation.TheVariants.{Containers}
use Rattle.rf_satisfy.proofs.Firsts.{first_below-when}
use Rattle.rf_satisfy.proofs.ContainerLemmas.{AreContainedOnce-from_first, is_wrongly_contained-from}
use Rattle.rf_satisfy.proofs.kinds.containers.first_containers.Goals as goal

pub returns-then-is_wrongly_contained-clause-first : goal.returns-then-is_wrongly_contained-clause-first
returns-then-is_wrongly_contained-clause-first c =
    let node : c.loop-node.node < size_of c.args.graph.now = (let l = c.loop-node-test.true in omega (arith, c.len-node-end.ensures)) in
    let at = get_or_read c.in_ok-counts.counts.items c.loop-node.node c.index.result.now (omega (arith, c.in_ok-counts.ensures.len)) c.index.ensures 0 in
    first_below-when (size_of c.args.graph.now) (is_wrongly_contained c.args.problem.now c.args.graph.now) Containers c.loop-node.node node c.loop-node.invariant
    (is_wrongly_contained-from c.args.problem.now c.args.graph.now c.loop-node.node c.index.result.now (contains c.contained_classes-contained.result c.class_of.result)
    (at ∙ c.in_ok-counts.ensures.counts c.loop-node.node node)
    (ap (contains c.contained_classes-contained.result) c.class_of.ensures ∙ c.contained_classes-contained.ensures (class_of c.args.graph.now c.loop-node.node))
    (sym c.is_wrongly_contained.ensures ∙ c.if-is_wrongly_contained.true))

pub returns-clause-once : goal.returns-clause-once
returns-clause-once c = AreContainedOnce-from_first c.args.problem.now c.args.graph.now c.loop-node.node
    (let l = c.loop-node-test.false in omega (arith, c.len-node-end.ensures)) c.loop-node.invariant
