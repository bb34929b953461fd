use Rattle.std.proofs.Common.{◌≡◌, take}
use Rattle.rf_names.specs.Declarations.{references_of}
use Rattle.rf_names.proofs.gather.references_of.Given as goal

abbrev pub invariant-loop-number : goal.invariant-loop-number
invariant-loop-number l = l.references.items ≡ references_of 0 (take l.number l.classes)
