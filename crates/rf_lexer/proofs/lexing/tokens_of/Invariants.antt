use Rattle.std.proofs.Common.{◌≡◌, ◌+◌, ◌≤◌, length}
use Rattle.std.specs.Str.{chars}
use denote.Shadow.{shadow}
use denote.Text.{Utf8}
use Rattle.rf_lexer.specs.Gap.{BeginsNoGap}
use Rattle.rf_lexer.specs.Tokens.{AreTokens}
use Rattle.rf_lexer.proofs.lexing.tokens_of.Given as goal

abbrev pub invariant-loop-rest : goal.invariant-loop-rest
invariant-loop-rest l = record {
  lexed : AreTokens (length l.text) (chars l.text) l.tokens.items (chars l.rest);
  over : BeginsNoGap (chars l.rest);
  utf8 : shadow (Utf8 l.rest);
  bound : length l.rest ≤ length l.text;
  whole : l.end ≡ length l.text;
  few : length l.tokens.items + length l.rest ≤ length l.text;
}

abbrev pub decreases-loop-rest : goal.decreases-loop-rest
decreases-loop-rest l = length l.rest
