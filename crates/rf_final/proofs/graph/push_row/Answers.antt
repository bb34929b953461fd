use Rattle.rf_final.proofs.Pieces.{joined-more}
use Rattle.rf_final.specs.GraphOf.{edge_if, is_edge}
use Rattle.rf_final.proofs.graph.push_row.Goals as goal

pub loop-y-preserved : goal.loop-y-preserved
loop-y-preserved g c =
    let p = g.F.Facts.problem c.args.view.now in let s = g.F.Facts.state c.args.view.now in
    joined-more c.args.edges.now.items c.loop-y.edges.items c.push_edge.new.edges.items c.loop-y.y
    (λ y. edge_if (is_edge p s c.args.r c.args.x y) c.args.r c.args.x y) c.loop-y.invariant c.in_ok-push_edge.ensures
