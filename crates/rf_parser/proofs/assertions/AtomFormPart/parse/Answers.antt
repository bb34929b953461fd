use Rattle.std.proofs.Common.{[]}
use Rattle.rf_syntax.specs.Assertion.{arg_pieces}
use Rattle.rf_parser.specs.Private.Parts.{listed_in_parens}
use Rattle.rf_parser.proofs.AssertionParts.{arg_begins, args_apart, atom_case}
use Rattle.rf_parser.proofs.Wholes.{passed_on, parsed_as, parsed_then, returned, stuck_as, stuck_first, stuck_then}
use Rattle.rf_parser.proofs.assertions.AtomFormPart.parse.Goals as goal

pub returns-in_err-symbol-clause-stop : goal.returns-in_err-symbol-clause-stop
returns-in_err-symbol-clause-stop c =
    returned _ c.from_residual.ensures.1 (passed_on c.in_err-symbol.ensures.stop (λ left h. stuck_as (atom_case _) (stuck_first (listed_in_parens arg_pieces) [] args_apart h)))

pub parse_in_parens-requires-clause-begins : goal.parse_in_parens-requires-clause-begins
parse_in_parens-requires-clause-begins c = arg_begins

pub returns-in_err-args-clause-stop : goal.returns-in_err-args-clause-stop
returns-in_err-args-clause-stop c =
    returned _ c.from_residual-in_err-args.ensures.1 (passed_on c.in_err-args.ensures.stop (λ left h. stuck_as (atom_case _) (stuck_then args_apart c.in_ok-symbol.ensures.ok h)))

pub returns-clause-ok : goal.returns-clause-ok
returns-clause-ok c = parsed_as (atom_case _) (parsed_then args_apart c.in_ok-symbol.ensures.ok c.in_ok-args.ensures.ok)
