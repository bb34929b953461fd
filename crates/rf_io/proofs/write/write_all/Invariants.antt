use Rattle.std.proofs.Common.{◌≤◌, ◌-◌, length, take}
use Rattle.rf_io.specs.Sink.{Appends}
use Rattle.rf_io.proofs.write.write_all.Given as goal

abbrev pub invariant-loop-written : goal.invariant-loop-written
invariant-loop-written g l = record {
  within : l.written ≤ length l.bytes;
  told : Appends (g.S.Sink.state l.initial.sink) (g.S.Sink.state l.sink) (take l.written l.bytes);
  later : (g.S.Sink.state l.initial.sink).faults ≤ (g.S.Sink.state l.sink).faults;
}

abbrev pub decreases-loop-written : goal.decreases-loop-written
decreases-loop-written g l = length l.bytes - l.written
