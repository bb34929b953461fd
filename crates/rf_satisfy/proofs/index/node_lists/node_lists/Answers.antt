use Rattle.std.proofs.Common.{arith, ◌≡◌, length}
use Rattle.rf_satisfy.proofs.NodeListLemmas.{AreLists-more}
use Rattle.rf_satisfy.proofs.index.node_lists.node_lists.Goals as goal

pub loop-x-preserved : goal.loop-x-preserved
loop-x-preserved c =
    let len : length c.put.new.rows.items ≡ length c.loop-x.rows.items = omega (arith, c.in_ok-put.ensures.len) in
    rw c.in_ok-push.ensures.items
    (AreLists-more c.loop-x.x c.args.graph.now c.args.objects c.loop-x.all.items c.loop-x.rows.items c.put.new.rows.items c.loop-x.invariant
    len (rw c.deref.ensures at c.in_ok-put.ensures.put) (rw c.deref.ensures at c.in_ok-put.ensures.others))
