use Rattle.std.proofs.Common.{◌≤◌, length}
use Rattle.std.specs.Str.{chars}
use denote.Shadow.{shadow}
use denote.Text.{Utf8}
use Rattle.rf_lexer.specs.Gap.{IsGap}
use Rattle.rf_lexer.proofs.space.skip_gap.Given as goal

abbrev pub invariant-gap : goal.invariant-gap
invariant-gap l = record {
  gap : IsGap (chars l.text) (chars l.rest);
  utf8 : shadow (Utf8 l.rest);
  bound : length l.rest ≤ length l.text;
}

abbrev pub decreases-gap : goal.decreases-gap
decreases-gap l = length l.rest
