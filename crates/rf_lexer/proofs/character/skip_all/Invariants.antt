use Rattle.std.proofs.Common.{◌≤◌, length}
use Rattle.std.specs.Str.{chars}
use denote.Shadow.{shadow}
use denote.Text.{Utf8}
use Rattle.rf_lexer.specs.Private.Scan.{set_test}
use Rattle.rf_lexer.proofs.Spans.{Passed}
use Rattle.rf_lexer.proofs.character.skip_all.Given as goal

abbrev pub invariant-span : goal.invariant-span
invariant-span l = record {
  passed : Passed (set_test l.set) (chars l.text) (chars l.rest);
  utf8 : shadow (Utf8 l.rest);
  bound : length l.rest ≤ length l.text;
}

abbrev pub decreases-span : goal.decreases-span
decreases-span l = length l.rest
