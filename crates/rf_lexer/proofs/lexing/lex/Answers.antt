use Rattle.rf_lexer.proofs.Causes.{Answers-scan}
use Rattle.rf_lexer.proofs.lexing.lex.Goals as goal

pub returns : goal.returns
returns c = record {
  answers = Answers-scan c.args.text.now c.tokens_of.result c.tokens_of.ensures.ok c.tokens_of.ensures.fault;
  few = c.tokens_of.ensures.few;
}
