use Rattle.std.proofs.Common.{◌≡◌}
use Rattle.rf_names.specs.Tables.{AreCounts, new_before}
use Rattle.rf_names.proofs.counts.new_before.Given as goal

abbrev pub invariant-loop-class : goal.invariant-loop-class
invariant-loop-class l = record {
  here : l.count ≡ new_before l.classes l.class-index;
  before : AreCounts l.classes l.class-index l.counts.items;
}
