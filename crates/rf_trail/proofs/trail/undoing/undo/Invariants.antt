use Rattle.std.proofs.Common.{◌≡◌, ◌≤◌, drop, length, take, vec_len}
use Rattle.rf_trail.specs.Trail.{undone}
use Rattle.rf_trail.proofs.trail.undoing.undo.Given as goal

abbrev pub invariant-loop-changes : goal.invariant-loop-changes
invariant-loop-changes g l = record {
  enough : l.many ≤ length l.changes.items;
  first : l.changes.items ≡ take (length l.changes.items) l.initial.changes.items;
  undone : l.items.items ≡ undone (drop (length l.changes.items) l.initial.changes.items) l.initial.items.items;
}

abbrev pub decreases-loop-changes : goal.decreases-loop-changes
decreases-loop-changes g l = vec_len l.changes
