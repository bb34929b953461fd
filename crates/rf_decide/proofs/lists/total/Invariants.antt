use Rattle.std.proofs.Common.{◌≡◌, ◌≤◌, ◌*◌, length}
use Rattle.rf_finite.specs.Passing.{joined}
use Rattle.rf_decide.proofs.lists.total.Given as goal

abbrev pub invariant-loop-k : goal.invariant-loop-k
invariant-loop-k g l = record {
  sum : l.sum ≡ length (joined l.k (g.L.Lists.list l.fn.lists));
  few : l.sum ≤ l.k * g.L.Lists.most l.fn.lists;
}
