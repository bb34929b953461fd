use Rattle.std.proofs.Common.{◌≡◌, map, take}
use Rattle.rf_names.specs.Bodies.{clause_names, with_variables}
use Rattle.rf_build.specs.Resolved.{resolved_literals}
use Rattle.rf_build.proofs.predicates.written.Given as goal

abbrev pub invariant-loop-literal : goal.invariant-loop-literal
invariant-loop-literal l = record {
  known : l.known ≡ with_variables l.initial.known
      (clause_names l.arguments.names.now.declared.now l.arguments.params.now (map (λ m. m.now) (take l.literal-index l.literals)));
  written : l.written.items ≡ resolved_literals l.arguments.names.now.declared.now l.arguments.params.now l.initial.known
      (map (λ m. m.now) (take l.literal-index l.literals));
}
