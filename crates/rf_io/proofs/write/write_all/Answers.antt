use Rattle.std.proofs.Common.{arith}
use Rattle.std.proofs.lemmas.Grind.{common_steps}
use Rattle.std.proofs.lemmas.List.{take_rest}
use Rattle.rf_io.proofs.Appended.{appends_more}
use Rattle.rf_io.proofs.write.write_all.Goals as goal

pub loop-written-preserved : goal.loop-written-preserved
loop-written-preserved g c = record {
  within = grind (arith, common_steps);
  told = appends_more (g.S.Sink.state c.args.sink.now) (g.S.Sink.state c.loop-written.sink) (g.S.Sink.state c.write.new.self) c.args.bytes.now c.loop-written.written c.in_ok-written.field-0 c.loop-written.invariant.told
      (rw (take_rest c.args.bytes.now c.loop-written.written) at c.in_ok-written.ensures.bytes);
  later = grind (arith, common_steps);
}
