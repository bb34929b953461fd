use Rattle.std.proofs.Common.{◌≡◌, ◌++◌, length}
use Rattle.rf_tree.specs.Document.{AreObjects, spaced}
use Rattle.rf_tree.specs.Private.Fields.{EndsWord}
use Rattle.rf_tree.proofs.fields.read_numbers.Given as goal

abbrev pub invariant-loop-number : goal.invariant-loop-number
invariant-loop-number l = record {
  joined : l.bytes ≡ spaced l.numbers ++ l.rest;
  small : AreObjects 11 l.numbers;
  ended : EndsWord l.rest;
}

abbrev pub decreases-loop-number : goal.decreases-loop-number
decreases-loop-number l = length l.rest
