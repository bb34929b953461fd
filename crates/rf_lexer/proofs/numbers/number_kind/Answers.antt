use Rattle.rf_lexer.proofs.Digits.{big_number, bigger_number, takes_number}
use Rattle.rf_lexer.proofs.numbers.number_kind.Goals as goal
use Rattle.rf_lexer.proofs.numbers.number_kind.Goals.{in_default-via-in-Ok+else-n-le-GREATEST_NUMBER, in_default-via-in_default}
use Rattle.std.proofs.Common.{refl}

pub returns-in-Ok-clause-ok : goal.returns-in-Ok-clause-ok
returns-in-Ok-clause-ok c =
    takes_number _ _ _ _ c.parse.result c.requires (c.before-2.ensures _ c.requires.joined) c.parse.ensures.value.0 c.in-Ok.is
    c.if-n-le-GREATEST_NUMBER.true

pub returns-in_default-clause-fault : goal.returns-in_default-clause-fault
returns-in_default-clause-fault c = (
  refl,
  elim c.in_default.branch [
    | in_default-via-in-Ok+else-n-le-GREATEST_NUMBER w ↦
        big_number _ _ _ _ c.parse.result c.requires (c.before-2.ensures _ c.requires.joined) c.parse.ensures.value.0 w.in-Ok.is
        w.if-n-le-GREATEST_NUMBER.false
    | in_default-via-in_default w ↦
        bigger_number _ _ _ _ c.parse.result c.requires (c.before-2.ensures _ c.requires.joined) c.parse.ensures.value.0 w.in_default.is
  ],
)
