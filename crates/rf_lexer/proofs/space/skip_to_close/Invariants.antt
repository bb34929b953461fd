use Rattle.std.proofs.Common.{◌≤◌, length}
use Rattle.std.specs.Str.{chars}
use denote.Shadow.{shadow}
use denote.Text.{Utf8}
use Rattle.rf_lexer.proofs.Closings.{NotYet}
use Rattle.rf_lexer.proofs.space.skip_to_close.Given as goal

abbrev pub invariant-close : goal.invariant-close
invariant-close l = record {
  not_yet : NotYet (chars l.text) (chars l.rest);
  utf8 : shadow (Utf8 l.rest);
  bound : length l.rest ≤ length l.text;
}

abbrev pub decreases-close : goal.decreases-close
decreases-close l = length l.rest
