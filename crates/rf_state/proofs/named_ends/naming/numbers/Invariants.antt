use Rattle.std.proofs.Common.{◌≡◌, vec_len}
use Rattle.rf_state.specs.Lists.{AreNumbers}
use Rattle.rf_state.proofs.named_ends.naming.numbers.Given as goal

abbrev pub invariant-loop-number : goal.invariant-loop-number
invariant-loop-number l = record {
  many : vec_len l.numbers ≡ l.number;
  each : AreNumbers l.number l.numbers.items;
}
