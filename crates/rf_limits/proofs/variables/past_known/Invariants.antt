use Rattle.std.proofs.Common.{◌≡◌, map, drop}
use Rattle.rf_names.specs.Bodies.{with_variables}
use Rattle.rf_limits.proofs.variables.past_known.Given as goal

abbrev pub invariant-loop-name : goal.invariant-loop-name
invariant-loop-name l = with_variables (map (λ n. n.now) l.variables.items) (map (λ n. n.now) (drop l.name-index l.names)) ≡ with_variables (map (λ n. n.now) l.initial.variables.items) (map (λ n. n.now) l.names)
