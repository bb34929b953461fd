use Rattle.std.proofs.Common.{◌∙◌, sym}
use Rattle.rf_lexer.proofs.Gaps.{past_from_percent, past_from_space}
use Rattle.rf_lexer.proofs.Takings.{begins, none_at}
use Rattle.rf_lexer.proofs.space.skip_one.Goals as goal

pub returns-in-37-clause-found : goal.returns-in-37-clause-found
returns-in-37-clause-found c = past_from_percent _ _ _ (begins _ _ _ _ c.in_ok-first.ensures.found c.in-37.is) c.skip_all.ensures.span

pub returns-in-47-clause-none : goal.returns-in-47-clause-none
returns-in-47-clause-none c = none_at _ _ _ (begins _ _ _ _ c.in_ok-first.ensures.found c.in-47.is) c.skip_comment.ensures.none

pub returns-then-is_space-clause-found : goal.returns-then-is_space-clause-found
returns-then-is_space-clause-found c = past_from_space _ _ _ c.in_ok-first.ensures.found (sym c.is_space.ensures ∙ c.if-is_space.true)
