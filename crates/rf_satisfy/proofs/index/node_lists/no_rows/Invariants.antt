use Rattle.std.proofs.Common.{◌≡◌, ◌≤◌, ◌-◌, ℕ, [], vec_len}
use Rattle.rf_satisfy.specs.NodeLists.{row_of}
use Rattle.rf_satisfy.proofs.index.node_lists.no_rows.Given as goal

abbrev pub invariant-loop-alloc : goal.invariant-loop-alloc
invariant-loop-alloc l = record {
  few : vec_len l.rows ≤ l.count;
  none : (o : ℕ) → row_of l.rows.items o ≡ [];
}

abbrev pub decreases-loop-alloc : goal.decreases-loop-alloc
decreases-loop-alloc l = l.count - vec_len l.rows
