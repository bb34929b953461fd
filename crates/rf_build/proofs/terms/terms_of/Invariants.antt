use Rattle.std.proofs.Common.{◌≡◌, take}
use Rattle.rf_names.specs.Bodies.{terms_of}
use Rattle.rf_build.specs.Arguments.{with_arguments}
use Rattle.rf_build.proofs.terms.terms_of.Given as goal

abbrev pub invariant-loop-name : goal.invariant-loop-name
invariant-loop-name l = record {
  known : l.known ≡ with_arguments l.arguments.names.now.declared.now l.arguments.params.now l.initial.known
      (take l.name-index l.names);
  terms : l.terms.items ≡ terms_of l.arguments.names.now.declared.now l.arguments.params.now l.initial.known
      (take l.name-index l.names);
}
