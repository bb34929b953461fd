use Rattle.std.proofs.Common.{◌∙◌, ap}
use Rattle.rf_parser.specs.declared.error.ParseError.{ParseError}
use Rattle.rf_source.specs.Private.Stages.{located_fault}
use Rattle.rf_failure.proofs.AnswersLemmas.{Answers-as_fault}
use Rattle.rf_parser.specs.Fit.{IsTreeOf}
use Rattle.rf_parser.specs.Refusal.{ParseFault}
use Rattle.rf_syntax.specs.declared.statement.Ast.{Ast}
use Rattle.rf_source.proofs.ReadableLemmas.{IsReadableTree-tokens, short_tree}
use Rattle.rf_source.proofs.StageLemmas.{Answers-refused, Answers-tree}
use Rattle.rf_source.proofs.source.read_tokens.Goals as goal

pub read_tree-requires : goal.read_tree-requires
read_tree-requires c = record {
  read = IsReadableTree-tokens c.args.tokens.now c.in-Ok.ast c.requires.read c.in-Ok.ensures.answers.ok;
  short = short_tree c.args.tokens.now c.in-Ok.ast c.requires.short c.in-Ok.ensures.answers.ok;
}

pub returns-in-Ok : goal.returns-in-Ok
returns-in-Ok c = Answers-tree c.args.tokens.now c.args.end c.in-Ok.ast c.read_tree.result c.in-Ok.ensures.answers c.read_tree.ensures

pub returns-in-Err-Fault : goal.returns-in-Err-Fault
returns-in-Err-Fault c =
    let arm = c.in-Err-Fault in
    Answers-refused c.args.tokens.now c.args.end arm.error c.located.result
    (c.located.ensures ∙ ap (λ (e : ParseError). located_fault c.args.tokens.now c.args.end e) arm.error-is)
    (Answers-as_fault (λ (ast : Ast). ast) (IsTreeOf c.args.tokens.now) (ParseFault c.args.tokens.now) arm.field-0 arm.error arm.field-0-is
    arm.ensures.answers)
