use Rattle.std.proofs.Common.{◌≡◌, ◌++◌, take}
use Rattle.rf_valuation.specs.Valuation.{object_names}
use Rattle.rf_valuation.proofs.lines.push_objects.Given as goal

abbrev pub invariant-loop-number : goal.invariant-loop-number
invariant-loop-number l = l.out ≡ l.initial.out ++ object_names l.problem (take l.number l.objects)
