use Rattle.rf_decide.specs.Counted.{AreSizes}
use Rattle.rf_decide.proofs.sizes.Sizes.count.Given as goal

abbrev pub invariant-loop-k : goal.invariant-loop-k
invariant-loop-k g l = AreSizes (g.L.Lists.many l.lists) (g.L.Lists.most l.lists) (g.L.Lists.list l.lists) l.self
