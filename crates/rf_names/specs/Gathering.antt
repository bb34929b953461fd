-- For private functions: what statements declare and state, gathered one by one.
use Rattle.std.specs.Prelude.{List, [], ◌++◌, Bool, not, ◌&&◌, filter}
use Rattle.std.specs.List.{flat_map}
use Rattle.rf_syntax.specs.declared.name.Name.{Name}
use Rattle.rf_syntax.specs.declared.predicate.BodyLiteral.{BodyLiteral}
use Rattle.rf_syntax.specs.declared.statement.Statement.{Statement}
use Rattle.rf_names.specs.Declarations.{Declared, argument_names, assertions_in, bounds_in, classes_in, declared_by, is_among, items_in, mentions_in, names_in, predicates_in}
use Rattle.rf_names.specs.Texts.{is_blank}

-- whether an argument of a body stands for an atom, of these, beside parameters of these names
abbrev pub is_atom_among : List Name → List Name → Name → Bool
is_atom_among atoms params name = not (is_blank name) && (not (is_among params name) && is_among atoms name)

-- the atoms that literals name
abbrev pub atoms_among : List Name → List Name → List BodyLiteral → List Name
atoms_among atoms params clause = filter (is_atom_among atoms params) (flat_map argument_names clause)

-- what the statements of a text with these atoms declare and state, but for the references
abbrev pub gathered_by : List Name → List Statement → Declared
gathered_by atoms statements = record (declared_by statements) {
  references = [];
  atoms = atoms;
  mentions = flat_map (mentions_in atoms) statements;
}

-- the same with one statement more
abbrev pub with_statement : Declared → Statement → Declared
with_statement d s = record {
  names = d.names ++ names_in s;
  classes = d.classes ++ classes_in s;
  references = d.references;
  predicates = d.predicates ++ predicates_in s;
  items = d.items ++ items_in s;
  bounds = d.bounds ++ bounds_in s;
  assertions = d.assertions ++ assertions_in s;
  atoms = d.atoms;
  mentions = d.mentions ++ mentions_in d.atoms s;
}
