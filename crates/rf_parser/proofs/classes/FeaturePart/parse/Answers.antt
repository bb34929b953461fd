use Rattle.std.proofs.Common.{None, false}
use Rattle.rf_syntax.specs.declared.class.MultPlace.TheVariants.{Absent}
use Rattle.rf_parser.proofs.ClassParts.{ends_with, feature_case, feature_end, feature_rest, mult_apart, opposite_apart, semicolon_parsed, word_apart}
use Rattle.rf_parser.proofs.NameParts.{a_name}
use Rattle.rf_parser.proofs.Wholes.{passed_on, parsed_as, parsed_next, parsed_then, returned, stuck_as, stuck_first, stuck_next, stuck_start, stuck_then}
use Rattle.rf_parser.proofs.classes.FeaturePart.parse.Goals as goal

pub returns-in_err-target-clause-stop : goal.returns-in_err-target-clause-stop
returns-in_err-target-clause-stop c = returned _ c.from_residual.ensures.1 (passed_on c.in_err-target.ensures.stop (λ left h.
    stuck_as (feature_case _) (stuck_then word_apart c.parse_feature_word-word.ensures (stuck_start feature_rest ((Absent, a_name), (None, false)) h))))

pub returns-in_err-mult-clause-stop : goal.returns-in_err-mult-clause-stop
returns-in_err-mult-clause-stop c = returned _ c.from_residual-in_err-mult.ensures.1 (passed_on c.in_err-mult.ensures.stop (λ left h.
    stuck_as (feature_case _) (stuck_then word_apart c.parse_feature_word-word.ensures (stuck_next c.in_ok-target.ensures.ok
    (stuck_first feature_end (None, false) mult_apart h)))))

pub returns-in_err-opposite-clause-stop : goal.returns-in_err-opposite-clause-stop
returns-in_err-opposite-clause-stop c = returned _ c.from_residual-in_err-opposite.ensures.1 (passed_on c.in_err-opposite.ensures.stop (λ left h.
    stuck_as (feature_case _) (stuck_then word_apart c.parse_feature_word-word.ensures (stuck_next c.in_ok-target.ensures.ok (stuck_then mult_apart c.in_ok-mult.ensures.ok
    (stuck_first ends_with false opposite_apart h))))))

pub returns-clause-ok : goal.returns-clause-ok
returns-clause-ok c =
    parsed_as (feature_case _) (parsed_then word_apart c.parse_feature_word-word.ensures (parsed_next c.in_ok-target.ensures.ok (parsed_then mult_apart c.in_ok-mult.ensures.ok
    (parsed_then opposite_apart c.in_ok-opposite.ensures.ok (semicolon_parsed c.flag-semicolon.ensures)))))
