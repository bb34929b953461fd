use Rattle.std.proofs.Common.{None}
use Rattle.rf_syntax.specs.Class.{body_pieces}
use Rattle.rf_parser.proofs.ClassParts.{abstract_apart, class_case, class_end, class_named, supers_apart}
use Rattle.rf_parser.proofs.NameParts.{a_name}
use Rattle.rf_parser.proofs.Wholes.{passed_on, parsed_as, parsed_next, parsed_then, returned, stuck_as, stuck_first, stuck_next, stuck_start, stuck_then}
use Rattle.rf_parser.proofs.classes.parse_class.Goals as goal

pub returns-in_err-rest-clause-stop : goal.returns-in_err-rest-clause-stop
returns-in_err-rest-clause-stop c = returned _ c.from_residual.ensures.1 (passed_on c.in_err-rest.ensures.stop (λ left h.
    stuck_as (class_case _ c.requires) (stuck_then abstract_apart c.flag-is_abstract.ensures (stuck_start class_named (a_name, (None, None)) h))))

pub returns-in_err-name-clause-stop : goal.returns-in_err-name-clause-stop
returns-in_err-name-clause-stop c = returned _ c.from_residual-in_err-name.ensures.1 (passed_on c.in_err-name.ensures.stop (λ left h.
    stuck_as (class_case _ c.requires) (stuck_then abstract_apart c.flag-is_abstract.ensures (stuck_next c.in_ok-rest.ensures.ok (stuck_start class_end (None, None) h)))))

pub returns-in_err-supers-clause-stop : goal.returns-in_err-supers-clause-stop
returns-in_err-supers-clause-stop c = returned _ c.from_residual-in_err-supers.ensures.1 (passed_on c.in_err-supers.ensures.stop (λ left h.
    stuck_as (class_case _ c.requires) (stuck_then abstract_apart c.flag-is_abstract.ensures (stuck_next c.in_ok-rest.ensures.ok (stuck_next c.in_ok-name.ensures.ok
    (stuck_first body_pieces None supers_apart h))))))

pub returns-in_err-body-clause-stop : goal.returns-in_err-body-clause-stop
returns-in_err-body-clause-stop c = returned _ c.from_residual-in_err-body.ensures.1 (passed_on c.in_err-body.ensures.stop (λ left h.
    stuck_as (class_case _ c.requires) (stuck_then abstract_apart c.flag-is_abstract.ensures (stuck_next c.in_ok-rest.ensures.ok (stuck_next c.in_ok-name.ensures.ok
    (stuck_then supers_apart c.in_ok-supers.ensures.ok h))))))

pub returns-clause-ok : goal.returns-clause-ok
returns-clause-ok c =
    parsed_as (class_case _ c.requires) (parsed_then abstract_apart c.flag-is_abstract.ensures (parsed_next c.in_ok-rest.ensures.ok (parsed_next c.in_ok-name.ensures.ok
    (parsed_then supers_apart c.in_ok-supers.ensures.ok c.in_ok-body.ensures.ok))))
