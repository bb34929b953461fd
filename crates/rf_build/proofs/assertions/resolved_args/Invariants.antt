use Rattle.std.proofs.Common.{◌≡◌, map, take}
use Rattle.rf_build.specs.Resolved.{resolved_arg}
use Rattle.rf_build.proofs.assertions.resolved_args.Given as goal

abbrev pub invariant-loop-arg : goal.invariant-loop-arg
invariant-loop-arg l =
    l.numbers.items ≡ map (resolved_arg l.names.declared.now) (take l.arg-index l.args)
