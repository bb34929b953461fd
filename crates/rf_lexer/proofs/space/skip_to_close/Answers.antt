use Rattle.std.proofs.Common.{arith}
use Rattle.rf_lexer.proofs.Closings.{not_yet_more}
use Rattle.rf_lexer.proofs.space.skip_to_close.Goals as goal

pub close-preserved : goal.close-preserved
close-preserved c = record {
  not_yet = not_yet_more _ _ _ _ c.close.invariant.not_yet c.in-Some.ensures.found c.in_default-skip_slash.ensures.none;
  utf8 = c.in-Some.ensures.utf8;
  bound = omega (arith, c.in-Some.ensures.shorter);
}
