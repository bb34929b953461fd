use Rattle.std.proofs.Common.{refl}
use Rattle.rf_lexer.proofs.Closes.{open_comment}
use Rattle.rf_lexer.proofs.lexing.stray.Goals as goal

pub returns-then-begins_with_star : goal.returns-then-begins_with_star
returns-then-begins_with_star c =
    let star = c.begins_with_star.ensures.0 c.if-begins_with_star.true in
    (refl, open_comment _ _ star.0 c.requires.gap c.if-first-eq47.true star.1)
