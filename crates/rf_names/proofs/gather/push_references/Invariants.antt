use Rattle.std.proofs.Common.{◌≡◌, ◌++◌, map, take}
use Rattle.rf_names.proofs.gather.push_references.Given as goal

abbrev pub invariant-loop-feature : goal.invariant-loop-feature
invariant-loop-feature l = l.out.items ≡ l.initial.out.items ++ map (λ f. record { source = l.source; feature = f }) (take l.feature-index l.features)
