use Rattle.std.proofs.Common.{arith}
use Rattle.rf_lexer.proofs.Gaps.{gap_more}
use Rattle.rf_lexer.proofs.space.skip_gap.Goals as goal

pub gap-preserved : goal.gap-preserved
gap-preserved c = record {
  gap = gap_more _ _ _ c.gap.invariant.gap c.in-Some.ensures.found;
  utf8 = c.in-Some.ensures.utf8;
  bound = omega (arith, c.in-Some.ensures.shorter);
}
