use Rattle.std.proofs.Common.{◌≡◌, length, take, vec_len}
use Rattle.rf_state.specs.NamedEnds.{AreStated}
use Rattle.rf_state.proofs.named_ends.NamedEnds.of.Given as goal

abbrev pub invariant-loop-assertion : goal.invariant-loop-assertion
invariant-loop-assertion l = record {
  numbers : vec_len l.named.numbers ≡ length l.problem.objects;
  stated : AreStated l.problem (take l.assertion-index l.assertion-items) l.named;
}
