use Rattle.std.proofs.Common.{refl}
use Rattle.rf_lexer.proofs.Takings.{long_quoted, takes_quoted}
use Rattle.rf_lexer.proofs.names.quoted_kind.Goals as goal

pub returns-then-name-gt-MOST_NAME_BYTES-clause-fault : goal.returns-then-name-gt-MOST_NAME_BYTES-clause-fault
returns-then-name-gt-MOST_NAME_BYTES-clause-fault c =
    let quote = c.requires.quote in
    (refl, long_quoted _ _ quote.0 _ c.requires.span quote.1 (c.before-name.ensures _ c.requires.span.joined) c.if-name-gt-MOST_NAME_BYTES.true)

pub returns-clause-ok : goal.returns-clause-ok
returns-clause-ok c suffix e =
    takes_quoted _ _ suffix _ _ c.requires.span e (c.before-name.ensures _ c.requires.span.joined) c.if-name-gt-MOST_NAME_BYTES.false
    c.in_ok-from_str.ensures
