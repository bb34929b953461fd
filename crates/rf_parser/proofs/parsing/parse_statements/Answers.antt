use Rattle.std.proofs.Common.{[], sym, subst}
use Rattle.rf_parser.specs.Private.Parts.{statements_pieces}
use Rattle.rf_parser.specs.Private.Parsing.{Parses, anything}
use Rattle.rf_parser.proofs.ListParts.{so_far_end, so_far_more}
use Rattle.rf_parser.proofs.TextParts.{empty_rest, some_rest, statement_more, statement_more_stuck, statement_stuck, statements_end}
use Rattle.rf_parser.proofs.Wholes.{passed_on, returned}
use Rattle.rf_parser.proofs.parsing.parse_statements.Goals as goal

pub returns-in_err-statement-clause-stop : goal.returns-in_err-statement-clause-stop
returns-in_err-statement-clause-stop c = returned _ c.from_residual.ensures.1 (passed_on c.in_err-statement.ensures.stop (λ left h.
    c.loop-rest.invariant.onward.stuck left (statement_stuck (some_rest _ c.loop-rest-test.ensures) h)))

pub loop-rest-preserved : goal.loop-rest-preserved
loop-rest-preserved c =
    so_far_more c.loop-rest.invariant c.in_ok-push.ensures.ok
    (statement_more (some_rest _ c.loop-rest-test.ensures) c.in_ok-statement.ensures.ok)
    (statement_more_stuck (some_rest _ c.loop-rest-test.ensures) c.in_ok-statement.ensures.ok)

pub returns-clause-ok : goal.returns-clause-ok
returns-clause-ok c =
    let whole = so_far_end c.loop-rest.invariant (statements_end (empty_rest _ c.loop-rest-test.ensures)) in
    subst (λ ss. Parses statements_pieces anything c.args.tokens.now ss []) (sym whole.added) whole.parsed
