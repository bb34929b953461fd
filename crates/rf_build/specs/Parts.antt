-- When declarations stand for the parts of a problem.
use Rattle.std.specs.Prelude.{map}
use Rattle.rf_problem.specs.Made.{AreParts}
use Rattle.rf_names.specs.Declarations.{Declared}
use Rattle.rf_build.specs.Resolved.{resolved_assertion, resolved_class, resolved_objects, resolved_predicate, resolved_reference, resolved_scope}

-- the lists that declarations stand for are the parts of a problem
abbrev pub PartsFit : Declared → Type 0
PartsFit d =
    AreParts (map (resolved_class d) d.classes) (map (resolved_reference d) d.references) (map (resolved_predicate d) d.predicates)
    (resolved_objects d (map (resolved_class d) d.classes)) (map (resolved_assertion d) d.assertions) (map (resolved_scope d) d.bounds)
