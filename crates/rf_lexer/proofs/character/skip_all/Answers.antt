use Rattle.std.proofs.Common.{◌∙◌, sym, arith}
use Rattle.rf_lexer.proofs.Spans.{passed_more}
use Rattle.rf_lexer.proofs.character.skip_all.Goals as goal

pub span-preserved : goal.span-preserved
span-preserved c = record {
  passed = passed_more _ _ _ _ _ c.span.invariant.passed c.in-Some.ensures.found (sym c.is_in.ensures ∙ c.if-not-is_in.false);
  utf8 = c.in-Some.ensures.utf8;
  bound = omega (arith, c.in-Some.ensures.shorter);
}
