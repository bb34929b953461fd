use Rattle.std.proofs.Common.{arith, get_or}
use Rattle.std.proofs.lemmas.List.{get_or_default}
use Rattle.rf_graph.specs.declared.graph.Edge.{Edge}
use Rattle.rf_satisfy.proofs.SuspectEdgeLemmas.{edges-more, edges-ended}
use Rattle.rf_satisfy.proofs.kinds.excess.first_edge.Goals as goal

pub loop-edge-preserved : goal.loop-edge-preserved
loop-edge-preserved c =
    let items = c.deref-edge-items.result.now in
    let i = c.loop-edge.edge-index in
    let no_edge : Edge = record { reference = 0; from = 0; to = 0 } in
    rw c.earlier-first.ensures
    (edges-more c.args.index.now.problem c.args.index.now.graph c.args.reference items i (get_or items i no_edge)
    c.loop-edge.first c.denied_ends.result c.loop-edge-test.true (get_or_default items i no_edge (get_or items i no_edge) c.loop-edge-test.true)
    c.loop-edge.invariant c.denied_ends.ensures)

pub returns : goal.returns
returns c = edges-ended c.args.index.now.problem c.args.index.now.graph c.args.reference c.deref-edge-items.result.now c.loop-edge.edge-index c.loop-edge.first
    (omega arith) (rw c.graph.ensures.value at c.deref-edge-items.ensures) c.loop-edge.invariant
