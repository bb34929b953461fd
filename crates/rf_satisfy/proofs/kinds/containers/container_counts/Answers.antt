use Rattle.std.proofs.Common.{◌+◌, length, get_or, arith, sym, ◌∙◌, subst}
use Rattle.std.proofs.lemmas.List.{get_or_read, take_all}
use Rattle.std.specs.Prelude.{All}
use Rattle.rf_graph.specs.Graph.{FitsEdge}
use Rattle.rf_satisfy.specs.Containers.{contains_node}
use Rattle.rf_finite.proofs.Lists.{count_by-take_le}
use Rattle.rf_satisfy.proofs.ContainerCounts.{count_by-contains_node, counts-more, counts-same, no_edge}
use Rattle.rf_satisfy.proofs.kinds.containers.container_counts.Goals as goal
use Rattle.rf_satisfy.proofs.kinds.containers.container_counts.Goals.{then-is_containing, else-is_containing}

pub overflow_add-index_mut : goal.overflow_add-index_mut
overflow_add-index_mut c =
    let edges = subst (All (FitsEdge c.args.problem.now (length c.args.graph.now.nodes))) (sym c.deref-edge-items.ensures) c.requires.edges in
    let z = (get_or c.deref-edge-items.result.now c.loop-edge.edge-index no_edge).to in
    let lz = (edges c.loop-edge.edge-index no_edge c.loop-edge-test.true).to_node in
    let few = count_by-take_le (contains_node c.args.problem.now z) c.deref-edge-items.result.now c.loop-edge.edge-index (let l = c.loop-edge-test.true in omega arith) in
    let at = get_or_read c.loop-edge.counts.items z c.index_mut.result.now (omega (arith, c.loop-edge.invariant.len)) c.index_mut.ensures.value 0 in
    let total = c.loop-edge.invariant.counts z lz in omega arith

pub loop-edge-preserved : goal.loop-edge-preserved
loop-edge-preserved c =
    let edges = subst (All (FitsEdge c.args.problem.now (length c.args.graph.now.nodes))) (sym c.deref-edge-items.ensures) c.requires.edges in
    let z = (get_or c.deref-edge-items.result.now c.loop-edge.edge-index no_edge).to in
    let lz = (edges c.loop-edge.edge-index no_edge c.loop-edge-test.true).to_node in
    elim c.if-is_containing.branch [
      | then-is_containing w ↦ rw w.counts-is (record {
        len = c.loop-edge.invariant.len;
        counts = counts-more c.args.problem.now c.args.graph.now (length c.args.graph.now.nodes) c.loop-edge.counts.items c.deref-edge-items.result.now
            c.loop-edge.edge-index no_edge (w.index_mut.result.now + 1) c.loop-edge-test.true (omega (arith, c.loop-edge.invariant.len)) lz
            (sym c.is_containing.ensures ∙ w.if-is_containing.true)
            (let at = get_or_read c.loop-edge.counts.items z w.index_mut.result.now (omega (arith, c.loop-edge.invariant.len)) w.index_mut.ensures.value 0 in omega arith)
            c.loop-edge.invariant.counts;
      })
      | else-is_containing w ↦ rw w.counts-is (record {
        len = c.loop-edge.invariant.len;
        counts = counts-same c.args.problem.now c.args.graph.now (length c.args.graph.now.nodes) c.loop-edge.counts.items c.deref-edge-items.result.now
            c.loop-edge.edge-index no_edge c.loop-edge-test.true (sym c.is_containing.ensures ∙ w.if-is_containing.false) c.loop-edge.invariant.counts;
      })
    ]

pub returns-clause-counts : goal.returns-clause-counts
returns-clause-counts c = λ z l. c.loop-edge.invariant.counts z l
    ∙ (rw (take_all c.loop-edge.edge-index c.deref-edge-items.result.now c.loop-edge-test.false, c.deref-edge-items.ensures)
    (count_by-contains_node c.args.problem.now c.args.graph.now z c.requires))
