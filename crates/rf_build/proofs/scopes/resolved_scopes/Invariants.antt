use Rattle.std.proofs.Common.{◌≡◌, map, take}
use Rattle.rf_build.specs.Resolved.{resolved_scope}
use Rattle.rf_build.proofs.scopes.resolved_scopes.Given as goal

abbrev pub invariant-loop-bound : goal.invariant-loop-bound
invariant-loop-bound l =
    l.scopes.items ≡ map (resolved_scope l.names.declared.now)
    (map (λ b. b.now) (take l.bound-index l.bound-items))
