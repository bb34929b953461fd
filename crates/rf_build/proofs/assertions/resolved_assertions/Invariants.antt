use Rattle.std.proofs.Common.{◌≡◌, map, take}
use Rattle.rf_build.specs.Resolved.{resolved_sensed}
use Rattle.rf_build.proofs.assertions.resolved_assertions.Given as goal

abbrev pub invariant-loop-assertion : goal.invariant-loop-assertion
invariant-loop-assertion l =
    l.assertions.items ≡ map (resolved_sensed l.names.declared.now) (take l.assertion-index l.assertion-items)
