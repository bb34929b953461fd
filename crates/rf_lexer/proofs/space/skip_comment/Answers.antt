use Rattle.rf_lexer.proofs.Gaps.{past_from_slashes}
use Rattle.rf_lexer.proofs.Takings.{begins, past_if_closed}
use Rattle.rf_lexer.proofs.space.skip_comment.Goals as goal

pub returns-in-47-clause-found : goal.returns-in-47-clause-found
returns-in-47-clause-found c =
    past_from_slashes _ _ _ (begins _ _ _ _ c.in_ok-second.ensures.found c.in-47.is) c.skip_all.ensures.span

pub returns-in-42-clause-found : goal.returns-in-42-clause-found
returns-in-42-clause-found c =
    past_if_closed _ _ _ (begins _ _ _ _ c.in_ok-second.ensures.found c.in-42.is) c.skip_to_close.ensures.found
