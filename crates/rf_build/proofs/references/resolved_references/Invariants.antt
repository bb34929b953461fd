use Rattle.std.proofs.Common.{◌≡◌, map, take}
use Rattle.rf_build.specs.Resolved.{resolved_reference}
use Rattle.rf_build.proofs.references.resolved_references.Given as goal

abbrev pub invariant-loop-form : goal.invariant-loop-form
invariant-loop-form l =
    l.references.items ≡ map (resolved_reference l.names.declared.now) (take l.form-index l.form-items)
