use Rattle.std.proofs.Common.{◌≡◌, true}
use Rattle.rf_values.specs.ClassSet.{members_below}
use Rattle.rf_rules.proofs.scopes.all_classes.Given as goal

abbrev pub invariant-loop-class : goal.invariant-loop-class
invariant-loop-class l = l.classes ≡ members_below l.class (λ c. true)
