use Rattle.std.proofs.Common.{◌≡◌, map, take}
use Rattle.rf_build.specs.Resolved.{resolved_object}
use Rattle.rf_build.proofs.objects.resolved_names.Given as goal

abbrev pub invariant-loop-name : goal.invariant-loop-name
invariant-loop-name l =
    l.objects.items ≡ map (resolved_object l.names.declared.now)
    (map (λ n. n.now) (take l.name-index l.name-items))
