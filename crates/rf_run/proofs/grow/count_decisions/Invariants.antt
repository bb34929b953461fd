use Rattle.std.proofs.Common.{◌≡◌, ◌≤◌, take}
use Rattle.rf_tree.specs.Pending.{decisions_in}
use Rattle.rf_run.proofs.grow.count_decisions.Given as goal

abbrev pub invariant-loop-line : goal.invariant-loop-line
invariant-loop-line l = record {
  counted : l.count ≡ decisions_in (take l.line-index l.lines);
  few : l.count ≤ l.line-index;
}
