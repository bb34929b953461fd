use Rattle.rf_lexer.proofs.Takings.{begins}
use Rattle.rf_lexer.proofs.names.first_quoted.Goals as goal

pub returns-in_ok-kind-in-Some-eq39-default-clause-ok : goal.returns-in_ok-kind-in-Some-eq39-default-clause-ok
returns-in_ok-kind-in-Some-eq39-default-clause-ok c =
    c.in_ok-kind-in-Some-eq39-default.ensures.ok _
    (begins _ _ _ _ c.in-Some-eq39-default.ensures.found c.in-Some-eq39-default.field-0-0-test)
