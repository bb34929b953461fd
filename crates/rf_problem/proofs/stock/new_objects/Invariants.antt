use Rattle.std.proofs.Common.{◌≡◌, map, take}
use Rattle.rf_problem.specs.Valid.{new_numbers, new_object}
use Rattle.rf_problem.proofs.stock.new_objects.Given as goal

abbrev pub invariant-loop-number : goal.invariant-loop-number
invariant-loop-number l = l.objects.items ≡ map new_object (new_numbers 0 (take l.number l.classes))
