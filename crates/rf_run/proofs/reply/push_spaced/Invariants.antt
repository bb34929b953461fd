use Rattle.std.proofs.Common.{◌≡◌, ◌++◌, take}
use Rattle.rf_tree.specs.Document.{spaced}
use Rattle.rf_run.proofs.reply.push_spaced.Given as goal

abbrev pub invariant-loop-number : goal.invariant-loop-number
invariant-loop-number l = l.out ≡ l.initial.out ++ spaced (take l.number-index l.numbers)
