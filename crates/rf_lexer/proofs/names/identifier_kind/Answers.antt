use Rattle.std.proofs.Common.{refl}
use Rattle.rf_lexer.proofs.Takings.{long_name, takes_name, takes_word}
use Rattle.rf_lexer.proofs.names.identifier_kind.Goals as goal

pub returns-in-Some-clause-ok : goal.returns-in-Some-clause-ok
returns-in-Some-clause-ok c =
    takes_word _ _ _ _ c.requires (c.before-word.ensures _ c.requires.joined) c.in-Some.ensures.found

pub returns-then-word-gt-MOST_NAME_BYTES-clause-fault : goal.returns-then-word-gt-MOST_NAME_BYTES-clause-fault
returns-then-word-gt-MOST_NAME_BYTES-clause-fault c =
    (refl, long_name _ _ _ c.requires (c.before-word.ensures _ c.requires.joined) c.in_default.ensures.none c.if-word-gt-MOST_NAME_BYTES.true)

pub returns-clause-ok : goal.returns-clause-ok
returns-clause-ok c =
    takes_name _ _ _ _ c.requires (c.before-word.ensures _ c.requires.joined) c.in_default.ensures.none c.if-word-gt-MOST_NAME_BYTES.false
    c.in_ok-from_str.ensures
