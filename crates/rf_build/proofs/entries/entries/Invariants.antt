use Rattle.std.proofs.Common.{◌≡◌, map}
use Rattle.std.specs.List.{range_with_len}
use Rattle.rf_build.specs.Resolved.{entry_of}
use Rattle.rf_build.proofs.entries.entries.Given as goal

abbrev pub invariant-loop-variable : goal.invariant-loop-variable
invariant-loop-variable l = l.entries.items
    ≡ map (entry_of l.arity l.literals) (range_with_len 0 l.variable)
