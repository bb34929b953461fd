use Rattle.std.proofs.Common.{◌≡◌, map, take}
use Rattle.rf_build.specs.Resolved.{resolved_class}
use Rattle.rf_build.proofs.classes.resolved_classes.Given as goal

abbrev pub invariant-loop-form : goal.invariant-loop-form
invariant-loop-form l =
    l.classes.items ≡ map (resolved_class l.names.declared.now) (take l.form-index l.form-items)
