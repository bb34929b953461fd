use Rattle.std.proofs.Common.{◌≡◌, ◌++◌, take}
use Rattle.rf_build.specs.Resolved.{class_literals}
use Rattle.rf_build.proofs.predicates.push_class_literals.Given as goal

abbrev pub invariant-loop-number : goal.invariant-loop-number
invariant-loop-number l = l.literals.items ≡ l.initial.literals.items
    ++ class_literals l.names.declared.now 0 (take l.number l.params)
