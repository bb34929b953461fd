use Rattle.std.proofs.Common.{◌≡◌, map, take, filter, not}
use Rattle.rf_names.specs.Texts.{is_blank}
use Rattle.rf_name_rules.proofs.repeats.names_apart.Given as goal

abbrev pub invariant-loop-param : goal.invariant-loop-param
invariant-loop-param l = map (λ n. n.now) l.names.items ≡ filter (λ n. not (is_blank n)) (map (λ p. p.name) (take l.param-index l.params))
