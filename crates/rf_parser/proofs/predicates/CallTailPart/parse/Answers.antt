use Rattle.std.proofs.Common.{[], false}
use Rattle.rf_lexer.specs.declared.mark.Mark.TheVariants.{RightParen}
use Rattle.rf_parser.proofs.NameParts.{name_begins}
use Rattle.rf_parser.proofs.PredicateParts.{call_tail_case, flag_and_args, member_apart, plus_apart}
use Rattle.rf_parser.proofs.Wholes.{passed_on, parsed_as, parsed_then, returned, stuck_as, stuck_first, stuck_then}
use Rattle.rf_parser.proofs.predicates.CallTailPart.parse.Goals as goal

pub returns-in_err-member-clause-stop : goal.returns-in_err-member-clause-stop
returns-in_err-member-clause-stop c = returned _ c.from_residual.ensures.1 (passed_on c.in_err-member.ensures.stop (λ left h.
    stuck_as (call_tail_case _) (stuck_first flag_and_args (false, []) member_apart h)))

pub parse_in_parens-requires-clause-begins : goal.parse_in_parens-requires-clause-begins
parse_in_parens-requires-clause-begins c = name_begins RightParen

pub returns-in_err-args-clause-stop : goal.returns-in_err-args-clause-stop
returns-in_err-args-clause-stop c = returned _ c.from_residual-in_err-args.ensures.1 (passed_on c.in_err-args.ensures.stop (λ left h.
    stuck_as (call_tail_case _) (stuck_then member_apart c.in_ok-member.ensures.ok (stuck_then plus_apart c.flag-closure.ensures h))))

pub returns-clause-ok : goal.returns-clause-ok
returns-clause-ok c = parsed_as (call_tail_case _) (parsed_then member_apart c.in_ok-member.ensures.ok (parsed_then plus_apart c.flag-closure.ensures c.in_ok-args.ensures.ok))
