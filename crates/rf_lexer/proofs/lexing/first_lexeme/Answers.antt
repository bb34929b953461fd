use Rattle.std.proofs.Common.{subst, List, ℕ}
use Rattle.rf_lexer.specs.Gap.{BeginsNoGap}
use Rattle.rf_lexer.proofs.Takings.{has_character, takes_mark}
use Rattle.rf_lexer.proofs.lexing.first_lexeme.Goals as goal

pub returns-in-Some-first_mark-clause-ok : goal.returns-in-Some-first_mark-clause-ok
returns-in-Some-first_mark-clause-ok c = takes_mark _ _ _ c.in-Some-first_mark.ensures.found

pub unreachable-requires : goal.unreachable-requires
unreachable-requires c = has_character c.args.text.now c.utf8.text c.requires.more c.in_default.ensures.none

pub stray-requires-clause-gap : goal.stray-requires-clause-gap
stray-requires-clause-gap c = subst (λ (z : List ℕ). BeginsNoGap z) c.in-Some.ensures.found c.requires.gap
