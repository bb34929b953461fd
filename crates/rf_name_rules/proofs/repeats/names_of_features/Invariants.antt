use Rattle.std.proofs.Common.{◌≡◌, map, take}
use Rattle.rf_name_rules.proofs.repeats.names_of_features.Given as goal

abbrev pub invariant-loop-feature : goal.invariant-loop-feature
invariant-loop-feature l = map (λ n. n.now) l.names.items ≡ map (λ f. f.name) (take l.feature-index l.features)
