use Rattle.std.proofs.Common.{◌≡◌, map, take}
use Rattle.rf_prop_broken.specs.Dependence.{is_found, predicate_asks}
use Rattle.rf_prop_broken.proofs.dependence.asking.Given as goal

abbrev pub invariant-loop-predicate : goal.invariant-loop-predicate
invariant-loop-predicate l = l.next.items ≡ map (predicate_asks l.pair (is_found l.marked)) (take l.predicate-index l.predicate-items)
