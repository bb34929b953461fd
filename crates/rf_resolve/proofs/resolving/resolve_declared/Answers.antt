use Rattle.std.proofs.Common.{◌≡◌, IfErr, IfOk, None, Some, subst}
use Rattle.rf_failure.specs.Answers.{IfFault}
use Rattle.rf_names.specs.Declarations.{Declared}
use Rattle.rf_resolve.specs.Fault.{fault_of}
use Rattle.rf_resolve.proofs.resolving.resolve_declared.Goals as goal

pub returns-clause-sound : goal.returns-clause-sound
returns-clause-sound c =
    subst (λ (d : Declared). IfOk c.resolve_names.result (λ p. fault_of d ≡ None)) c.in_ok-names.ensures c.resolve_names.ensures.sound

pub returns-clause-fault : goal.returns-clause-fault
returns-clause-fault c =
    subst (λ (d : Declared). IfErr c.resolve_names.result (λ e. IfFault e (λ f. fault_of d ≡ Some f))) c.in_ok-names.ensures c.resolve_names.ensures.fault
