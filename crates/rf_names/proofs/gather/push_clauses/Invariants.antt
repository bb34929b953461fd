use Rattle.std.proofs.Common.{◌≡◌, ◌++◌, map, take}
use Rattle.rf_names.specs.Declarations.{items_of}
use Rattle.rf_names.proofs.gather.push_clauses.Given as goal

abbrev pub invariant-loop-list : goal.invariant-loop-list
invariant-loop-list l = l.out.items ≡ l.initial.out.items ++ map items_of (take l.list-index l.clauses)
