use Rattle.std.proofs.Common.{List, All, sym, subst, length, chars, []}
use Rattle.std.specs.declared.vec.Vec.{Vec}
use Rattle.std.specs.declared.alloc.Global.{Global}
use Rattle.rf_failure.proofs.AnswersLemmas.{Answers-as_fault, fault_not_found, found_no_fault, one_fault}
use Rattle.rf_lexer.specs.Fault.{LexFault}
use Rattle.rf_lexer.specs.Tokens.{Lexemes}
use Rattle.rf_lexer.specs.declared.token.Token.{Token}
use Rattle.rf_parser.specs.Fit.{token_kinds}
use Rattle.rf_resolve.specs.Readable.{IsReadable}
use Rattle.rf_source.proofs.ReadableLemmas.{IsReadable-tokens}
use Rattle.rf_source.proofs.StageLemmas.{Answers-lexical, Answers-tokens}
use Rattle.rf_source.proofs.source.read_text.Goals as goal

pub read_tokens-requires-clause-read : goal.read_tokens-requires-clause-read
read_tokens-requires-clause-read c =
    subst (λ (tokens : List Token). All IsReadable (token_kinds tokens)) (sym c.as_slice.ensures.value)
    (IsReadable-tokens (length c.args.text.now) c.in-Ok.tokens.items (chars c.args.text.now) [] c.in-Ok.ensures.answers.ok)

pub returns-in-Ok : goal.returns-in-Ok
returns-in-Ok c =
    let text = c.args.text.now in
    Answers-tokens text c.in-Ok.tokens.items c.as_slice.result.now c.read_tokens.result c.as_slice.ensures.value c.utf8.text
    c.in-Ok.ensures.answers.ok c.in-Ok.ensures.answers.found
    (found_no_fault (λ (v : Vec Token Global). v.items) (Lexemes text) (LexFault text) c.in-Ok.tokens c.in-Ok.ensures.answers) c.read_tokens.ensures

pub returns-in-Err-Fault : goal.returns-in-Err-Fault
returns-in-Err-Fault c =
    let text = c.args.text.now in
    let arm = c.in-Err-Fault in
    let answers =
    Answers-as_fault (λ (v : Vec Token Global). v.items) (Lexemes text) (LexFault text) arm.field-0 arm.error arm.field-0-is arm.ensures.answers in
    rw arm.error-is
    (Answers-lexical text arm.error c.utf8.text answers.fault
    (fault_not_found (λ (v : Vec Token Global). v.items) (Lexemes text) (LexFault text) arm.error answers)
    (one_fault (λ (v : Vec Token Global). v.items) (Lexemes text) (LexFault text) arm.error answers))
