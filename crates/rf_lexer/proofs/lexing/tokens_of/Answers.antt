use Rattle.std.proofs.Common.{arith}
use Rattle.std.proofs.lemmas.Grind.{common_steps}
use Rattle.rf_lexer.proofs.Sequences.{lexed_all, lexed_more, token_made}
use Rattle.rf_lexer.proofs.lexing.tokens_of.Goals as goal

pub loop-rest-preserved : goal.loop-rest-preserved
loop-rest-preserved c = record {
  lexed = lexed_more _ _ _ _ _ _ _ _ c.loop-rest.invariant.lexed (token_made _ _ _ _ c.in_ok-kind.ensures.ok (omega arith)
      (omega (arith, c.in_ok-kind.ensures.shorter, c.size-in-loop-rest.ensures.characters, c.size-in-loop-rest.ensures.len)))
      c.skip_gap-rest-in-loop-rest.ensures.gap c.in_ok-push.ensures.items;
  over = c.skip_gap-rest-in-loop-rest.ensures.all;
  utf8 = c.skip_gap-rest-in-loop-rest.utf8;
  bound = omega (arith, c.in_ok-kind.ensures.shorter);
  whole = c.loop-rest.invariant.whole;
  few = grind (arith, common_steps, c.loop-rest.invariant.few, c.in_ok-kind.ensures.shorter, c.skip_gap-rest-in-loop-rest.ensures.bound, c.in_ok-push.ensures.items);
}

pub returns-clause-ok : goal.returns-clause-ok
returns-clause-ok c = lexed_all _ _ _ c.loop-rest.rest.now c.loop-rest.invariant.lexed c.loop-rest-test.ensures
