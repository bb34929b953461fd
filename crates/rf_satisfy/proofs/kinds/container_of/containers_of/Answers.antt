use Rattle.std.proofs.Common.{length, sym, ◌∙◌, subst}
use Rattle.std.proofs.lemmas.List.{take_all}
use Rattle.std.specs.Prelude.{All}
use Rattle.rf_graph.specs.Graph.{FitsEdge}
use Rattle.rf_satisfy.proofs.ContainerCounts.{no_edge}
use Rattle.rf_satisfy.proofs.ContainerLemmas.{AreContainers-all, AreContainers-more, AreContainers-same}
use Rattle.rf_satisfy.proofs.kinds.container_of.containers_of.Goals as goal
use Rattle.rf_satisfy.proofs.kinds.container_of.containers_of.Goals.{then-is_containing, else-is_containing}

pub loop-edge-preserved : goal.loop-edge-preserved
loop-edge-preserved c =
    let edges = subst (All (FitsEdge c.args.problem.now (length c.args.graph.now.nodes))) (sym c.deref-edge-items.ensures) c.requires.fits.edges in
    let fit = edges c.loop-edge.edge-index no_edge c.loop-edge-test.true in
    elim c.if-is_containing.branch [
      | then-is_containing w ↦ rw w.containers-is (AreContainers-more c.args.problem.now c.args.graph.now (length c.args.graph.now.nodes) c.deref-edge-items.result.now
          c.loop-edge.edge-index no_edge c.loop-edge.containers.items c.loop-edge-test.true fit.from_node fit.to_node
          (sym c.is_containing.ensures ∙ w.if-is_containing.true) c.loop-edge.invariant)
      | else-is_containing w ↦ rw w.containers-is (AreContainers-same c.args.problem.now c.args.graph.now (length c.args.graph.now.nodes) c.deref-edge-items.result.now
          c.loop-edge.edge-index no_edge c.loop-edge.containers.items c.loop-edge-test.true (sym c.is_containing.ensures ∙ w.if-is_containing.false) c.loop-edge.invariant)
    ]

pub returns-clause-containment : goal.returns-clause-containment
returns-clause-containment c =
    let all = rw (take_all c.loop-edge.edge-index c.deref-edge-items.result.now c.loop-edge-test.false, c.deref-edge-items.ensures) at c.loop-edge.invariant in
    λ x z lx lz. AreContainers-all c.args.problem.now c.args.graph.now c.loop-edge.containers.items c.requires.fits c.requires.once all x z lz
