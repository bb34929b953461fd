use Rattle.std.proofs.Common.{None}
use Rattle.rf_syntax.specs.Name.{name_pieces}
use Rattle.rf_syntax.specs.Parts.{optional}
use Rattle.rf_syntax.specs.Range.{mult_pieces}
use Rattle.rf_parser.proofs.ClassParts.{name_first_case, mult_first_case, no_mult, some_mult, some_mult_stuck}
use Rattle.rf_parser.proofs.NameParts.{a_name}
use Rattle.rf_parser.proofs.Wholes.{passed_on, parsed_as, parsed_next, returned, stuck_as, stuck_next, stuck_start}
use Rattle.rf_parser.proofs.classes.parse_with_mult.Goals as goal

pub returns-in_err-mult-clause-stop : goal.returns-in_err-mult-clause-stop
returns-in_err-mult-clause-stop c = returned _ c.from_residual.ensures.1 (passed_on c.in_err-mult.ensures.stop (λ left h.
    stuck_as (mult_first_case _ (c.begins_with.ensures.0 c.if-begins_with.true)) (stuck_start name_pieces a_name h)))

pub returns-in_err-name-clause-stop : goal.returns-in_err-name-clause-stop
returns-in_err-name-clause-stop c = returned _ c.from_residual-in_err-name.ensures.1 (passed_on c.in_err-name.ensures.stop (λ left h.
    stuck_as (mult_first_case _ (c.begins_with.ensures.0 c.if-begins_with.true)) (stuck_next c.in_ok-mult.ensures.ok h)))

pub returns-then-begins_with-clause-ok : goal.returns-then-begins_with-clause-ok
returns-then-begins_with-clause-ok c =
    parsed_as (mult_first_case _ (c.begins_with.ensures.0 c.if-begins_with.true)) (parsed_next c.in_ok-mult.ensures.ok c.in_ok-name.ensures.ok)

pub returns-in_err-name-2-clause-stop : goal.returns-in_err-name-2-clause-stop
returns-in_err-name-2-clause-stop c = returned _ c.from_residual-in_err-name-2.ensures.1 (passed_on c.in_err-name-2.ensures.stop (λ left h.
    stuck_as (name_first_case _ (λ e. let yes_it = c.begins_with.ensures.1 e in let no_it = c.if-begins_with.false in cc)) (stuck_start (optional mult_pieces) None h)))

pub returns-then-not-begins_with-clause-ok : goal.returns-then-not-begins_with-clause-ok
returns-then-not-begins_with-clause-ok c =
    parsed_as (name_first_case _ (λ e. let yes_it = c.begins_with.ensures.1 e in let no_it = c.if-begins_with.false in cc)) (parsed_next c.in_ok-name-2.ensures.ok
    (no_mult (λ e. let yes_it = c.begins_with-2.ensures.1 e in let no_it = c.if-not-begins_with.true in cc)))

pub returns-in_err-mult-2-clause-stop : goal.returns-in_err-mult-2-clause-stop
returns-in_err-mult-2-clause-stop c = returned _ c.from_residual-in_err-mult-2.ensures.1 (passed_on c.in_err-mult-2.ensures.stop (λ left h.
    stuck_as (name_first_case _ (λ e. let yes_it = c.begins_with.ensures.1 e in let no_it = c.if-begins_with.false in cc)) (stuck_next c.in_ok-name-2.ensures.ok
    (some_mult_stuck (c.begins_with-2.ensures.0 c.if-not-begins_with.false) h))))

pub returns-clause-ok : goal.returns-clause-ok
returns-clause-ok c =
    parsed_as (name_first_case _ (λ e. let yes_it = c.begins_with.ensures.1 e in let no_it = c.if-begins_with.false in cc)) (parsed_next c.in_ok-name-2.ensures.ok
    (some_mult (c.begins_with-2.ensures.0 c.if-not-begins_with.false) c.in_ok-mult-2.ensures.ok))
