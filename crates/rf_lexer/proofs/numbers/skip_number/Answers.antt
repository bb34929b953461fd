use Rattle.std.proofs.Common.{arith}
use Rattle.rf_lexer.proofs.Takings.{number_digits, number_zero}
use Rattle.rf_lexer.proofs.numbers.skip_number.Goals as goal

pub returns-then-first-eq48-clause-number : goal.returns-then-first-eq48-clause-number
returns-then-first-eq48-clause-number c = number_zero _ _ c.if-first-eq48.true

pub returns-else-first-eq48-clause-number : goal.returns-else-first-eq48-clause-number
returns-else-first-eq48-clause-number c = number_digits _ _ _ (omega arith) c.requires.high c.skip_all.ensures.span
