use Rattle.rf_resolve.proofs.FirstFault.{some_first, some_second, some_third, the_rest}
use Rattle.rf_resolve.proofs.faults.first_fault.Goals as goal

pub returns-in-Some : goal.returns-in-Some
returns-in-Some c = some_first c.args.names.now.declared.now _ _ c.in_ok-error.ensures c.in-Some.is

pub returns-in-Some-2 : goal.returns-in-Some-2
returns-in-Some-2 c = some_second c.args.names.now.declared.now _ _ _ c.in_ok-error.ensures (λ x. c.in_default.not-Some x) c.in_ok-error-2.ensures c.in-Some-2.is

pub returns-in-Some-3 : goal.returns-in-Some-3
returns-in-Some-3 c = some_third c.args.names.now.declared.now _ _ _ _ c.in_ok-error.ensures (λ x. c.in_default.not-Some x) c.in_ok-error-2.ensures
    (λ x. c.in_default-2.not-Some x) c.in_ok-error-3.ensures c.in-Some-3.is

pub returns : goal.returns
returns c = the_rest c.args.names.now.declared.now _ _ _ _ c.in_ok-error.ensures (λ x. c.in_default.not-Some x) c.in_ok-error-2.ensures
    (λ x. c.in_default-2.not-Some x) c.in_ok-error-3.ensures (λ x. c.in_default-3.not-Some x) c.fault_of_rest.ensures
