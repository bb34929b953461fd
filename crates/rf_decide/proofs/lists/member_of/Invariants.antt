use Rattle.std.proofs.Common.{◌≡◌, ◌+◌, length}
use Rattle.rf_finite.specs.Passing.{joined}
use Rattle.rf_decide.proofs.lists.member_of.Given as goal

abbrev pub invariant-loop-k : goal.invariant-loop-k
invariant-loop-k g l = record {
  left : length (joined l.k (g.L.Lists.list l.fn.lists)) + l.left ≡ l.fn.place;
}
