-- For private functions: the variables after arguments.
use Rattle.std.specs.Prelude.{List, filter, not}
use Rattle.rf_syntax.specs.declared.name.Name.{Name}
use Rattle.rf_syntax.specs.declared.predicate.Param.{Param}
use Rattle.rf_names.specs.Bodies.{with_variables}
use Rattle.rf_names.specs.Declarations.{Declared, is_atom_argument}

-- the variables after these arguments: those that aren't atoms join
abbrev pub with_arguments : Declared → List Param → List Name → List Name → List Name
with_arguments d params known names = with_variables known (filter (λ n. not (is_atom_argument d.atoms params n)) names)
