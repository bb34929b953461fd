use Rattle.std.proofs.Common.{◌≡◌, ◌<◌, length}
use Rattle.rf_store.specs.Entries.{value_at}
use Rattle.rf_store.specs.Part.{part_at}
use Rattle.rf_store.proofs.tree.find.Given as goal

-- the tree that is left has the answer
abbrev pub invariant-loop-row : goal.invariant-loop-row
invariant-loop-row l = record {
  in_table : l.link < length l.table.parts;
  value : value_at (part_at l.table.parts l.root).entries l.key ≡ value_at (part_at l.table.parts l.link).entries l.key;
}

abbrev pub decreases-loop-row : goal.decreases-loop-row
decreases-loop-row l = l.link
