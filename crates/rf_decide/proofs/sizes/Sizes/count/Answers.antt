use Rattle.std.proofs.Common.{sym, subst}
use Rattle.rf_decide.specs.Counted.{AreSizes}
use Rattle.rf_decide.proofs.sizes.Sizes.count.Goals as goal
use Rattle.rf_decide.proofs.sizes.Sizes.count.Goals.{then-index, else-index}

pub loop-k-preserved : goal.loop-k-preserved
loop-k-preserved g c =
    let many = g.L.Lists.many c.args.lists.now in
    let most = g.L.Lists.most c.args.lists.now in
    let list = g.L.Lists.list c.args.lists.now in
    elim c.if-index.branch [
      | then-index w ↦ subst (AreSizes many most list) (sym w.self-is)
          (w.put.ensures many most list c.loop-k.invariant w.size-size.ensures.size w.size-size.ensures.few)
      | else-index w ↦ subst (AreSizes many most list) (sym w.self-is) c.loop-k.invariant
    ]
