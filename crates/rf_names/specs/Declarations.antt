-- What a problem text declares and states: lists, each in the order of the text.
use Rattle.std.specs.Prelude.{◌<◌, ◌^◌, length, Bool, List, ℕ, ◌∷◌, [], Option, None, Some, true, false, map, suc, ◌++◌, ◌&&◌, not, filter, codes, if◌then◌else◌, option_to_list}
use Rattle.std.specs.List.{flat_map, list_any}
use Rattle.rf_names.specs.Texts.{is_blank, reads}
use Rattle.rf_syntax.specs.declared.class.Feature.{Feature}
use Rattle.rf_syntax.specs.declared.name.Name.{Name}
use Rattle.rf_syntax.specs.declared.predicate.BodyLiteral.{BodyLiteral}
use Rattle.rf_syntax.specs.declared.predicate.BodyLiteral.TheVariants.{Call, Same, Differ}
use Rattle.rf_syntax.specs.declared.predicate.Param.{Param}
use Rattle.rf_syntax.specs.declared.assertion.AtomForm.{AtomForm}
use Rattle.rf_values.specs.declared.truth.Truth.{Truth}
use Rattle.rf_syntax.specs.declared.non_empty.NonEmpty.{NonEmpty}
use Rattle.rf_syntax.specs.declared.predicate.PredicateWord.{PredicateWord}
use Rattle.rf_syntax.specs.declared.predicate.PredicateWord.TheVariants.{Pred, Error, ErrorPred}
use Rattle.rf_syntax.specs.declared.assertion.ValueWord.{ValueWord}
use Rattle.rf_syntax.specs.declared.assertion.ValueWord.TheVariants.{True as TrueWord, False as FalseWord, Unknown as UnknownWord, Error as ErrorWord}
use Rattle.rf_values.specs.declared.truth.Truth.TheVariants.{True, False, Unknown, Error as Both}
use Rattle.rf_syntax.specs.declared.assertion.AssertionForm.{AssertionForm}
use Rattle.rf_syntax.specs.declared.assertion.AssertionForm.TheVariants.{Plain, Not, Maybe, Valued}
use Rattle.rf_syntax.specs.declared.statement.Statement.{Statement}
use Rattle.rf_syntax.specs.declared.statement.Statement.TheVariants.{Class, Enum, Predicate, Declare, Multi, Atoms, Scope, Assert}
use Rattle.rf_syntax.specs.declared.statement.Item.{Item}
use Rattle.rf_syntax.specs.declared.statement.Bound.{Bound}
use Rattle.rf_syntax.specs.declared.assertion.Arg.{Arg}
use Rattle.rf_syntax.specs.declared.assertion.Arg.TheVariants.{Star, Symbol}
use Rattle.rf_syntax.specs.declared.statement.Ast.{Ast}
use Rattle.rf_problem.specs.declared.reference.RefKind.{RefKind}
use Rattle.rf_problem.specs.declared.reference.RefKind.TheVariants.{Plain, Contains, Container}
use Rattle.rf_syntax.specs.declared.class.FeatureWord.{FeatureWord}
use Rattle.rf_syntax.specs.declared.class.FeatureWord.TheVariants.{Contains as ContainsWord, Container as ContainerWord, Refers}

-- a class, with the names that stand after `extends` and its references, or an enum with its literals
pub record ClassDecl : Type 0 where
  pub name : Name
  pub is_abstract : Bool
  pub is_enum : Bool
  pub supers : List Name
  pub features : List Feature
  pub literals : List Name

-- a reference, with the number of the class that declares it
pub record ReferenceDecl : Type 0 where
  pub source : ℕ
  pub feature : Feature

-- a predicate, with its parameters and the literals of each clause
pub record PredicateDecl : Type 0 where
  pub is_error : Bool
  pub name : Name
  pub params : List Param
  pub clauses : List (List BodyLiteral)

-- an assertion
pub record AssertDecl : Type 0 where
  pub is_default : Bool
  pub atom : AtomForm
  pub value : Truth

-- the items of a list that isn't empty, and of one that may be left out
abbrev pub items_of : {T : Type 0} → NonEmpty T → List T
items_of list = list.first ∷ list.rest

abbrev pub items_or_none : {T : Type 0} → Option (NonEmpty T) → List T
items_or_none None = []
items_or_none (Some list) = items_of list

-- the items of a list that may be left out
abbrev pub listed_or_none : {T : Type 0} → Option (List T) → List T
listed_or_none None = []
listed_or_none (Some items) = items

-- whether a predicate must hold nowhere, by the word it begins with
abbrev pub is_error_word : PredicateWord → Bool
is_error_word Pred = false
is_error_word Error = true
is_error_word ErrorPred = true

-- the truth that a word stands for
abbrev pub truth_of : ValueWord → Truth
truth_of TrueWord = True
truth_of FalseWord = False
truth_of UnknownWord = Unknown
truth_of ErrorWord = Both

-- what is asserted, and as what: nothing before it asserts true, `!` false, `?` unknown
abbrev pub asserted_atom : AssertionForm → AtomForm
asserted_atom (Plain atom) = atom
asserted_atom (Not atom) = atom
asserted_atom (Maybe atom) = atom
asserted_atom (Valued atom value) = atom

abbrev pub asserted_truth : AssertionForm → Truth
asserted_truth (Plain atom) = True
asserted_truth (Not atom) = False
asserted_truth (Maybe atom) = Unknown
asserted_truth (Valued atom value) = truth_of value

-- the classes of a statement, enums among them
abbrev pub classes_in : Statement → List ClassDecl
classes_in (Class is_abstract name supers body) =
    record {
      name = name;
      is_abstract = is_abstract;
      is_enum = false;
      supers = items_or_none supers;
      features = listed_or_none body;
      literals = [];
    } ∷ []
classes_in (Enum name literals) =
    record {
      name = name;
      is_abstract = false;
      is_enum = true;
      supers = [];
      features = [];
      literals = listed_or_none literals;
    } ∷ []
classes_in _ = []

-- its predicates
abbrev pub predicates_in : Statement → List PredicateDecl
predicates_in (Predicate start name params clauses) =
    record { is_error = is_error_word start; name = name; params = params; clauses = map items_of (items_of clauses) } ∷ []
predicates_in _ = []

-- the items of its `multi`
abbrev pub items_in : Statement → List Item
items_in (Multi items) = items_of items
items_in _ = []

-- the bounds of its `scope`
abbrev pub bounds_in : Statement → List Bound
bounds_in (Scope bounds) = items_of bounds
bounds_in _ = []

-- its assertions
abbrev pub assertions_in : Statement → List AssertDecl
assertions_in (Assert is_default assertion) =
    record { is_default = is_default; atom = asserted_atom assertion; value = asserted_truth assertion } ∷ []
assertions_in _ = []

-- the names that it declares in the space of classes, predicates and objects
abbrev pub names_in : Statement → List Name
names_in (Class is_abstract name supers body) = name ∷ []
names_in (Enum name literals) = name ∷ listed_or_none literals
names_in (Predicate start name params clauses) = name ∷ []
names_in (Declare names) = items_of names
names_in (Multi items) = map (λ i. i.name) (items_of items)
names_in (Atoms names) = items_of names
names_in (Scope bounds) = []
names_in (Assert is_default assertion) = []

-- its atoms: the literals of its enum, and the names of its `atom`
abbrev pub atoms_in : Statement → List Name
atoms_in (Enum name literals) = listed_or_none literals
atoms_in (Atoms names) = items_of names
atoms_in _ = []

-- the name of the object that an argument NAME or NAME::MEMBER speaks of; none where that is the new object of a class
abbrev pub object_name : Name → Option Name → Option Name
object_name name None = Some name
object_name name (Some member) = if reads (codes "new") member then None else Some member

-- the named object of an argument
abbrev pub object_in : Arg → List Name
object_in Star = []
object_in (Symbol s) = option_to_list (object_name s.name s.member)

-- the names of the parameters
abbrev pub param_names : List Param → List Name
param_names params = map (λ p. p.name) params

-- the names that a literal has as arguments, in order
abbrev pub argument_names : BodyLiteral → List Name
argument_names (Call negated symbol closure args) = args
argument_names (Same a b) = a ∷ b ∷ []
argument_names (Differ a b) = a ∷ b ∷ []

-- whether a name is one of these
abbrev pub is_among : List Name → Name → Bool
is_among names name = list_any (reads name.text) names

-- whether an argument of a body stands for an atom, of these: it has the name of one and isn't `_`, and no parameter has its name
abbrev pub is_atom_argument : List Name → List Param → Name → Bool
is_atom_argument atoms params name =
    not (is_blank name) && (not (is_among (param_names params) name) && is_among atoms name)

-- the atoms that a clause names
abbrev pub atoms_in_clause : List Name → List Param → List BodyLiteral → List Name
atoms_in_clause atoms params clause = filter (is_atom_argument atoms params) (flat_map argument_names clause)

-- the names at which a statement of a text with these atoms speaks of named objects: it declares them, or they are arguments
abbrev pub mentions_in : List Name → Statement → List Name
mentions_in atoms (Class is_abstract name supers body) = []
mentions_in atoms (Enum name literals) = listed_or_none literals
mentions_in atoms (Predicate start name params clauses) =
    flat_map (λ clause. atoms_in_clause atoms params (items_of clause)) (items_of clauses)
mentions_in atoms (Declare names) = items_of names
mentions_in atoms (Multi items) = map (λ i. i.name) (items_of items)
mentions_in atoms (Atoms names) = items_of names
mentions_in atoms (Scope bounds) = []
mentions_in atoms (Assert is_default assertion) = flat_map object_in (asserted_atom assertion).args

-- the references of the classes, which have the numbers from n on
abbrev pub references_of : ℕ → List ClassDecl → List ReferenceDecl
references_of n [] = []
references_of n (c ∷ cs) = map (λ f. record { source = n; feature = f }) c.features ++ references_of (suc n) cs

-- all that a text declares and states
pub record Declared : Type 0 where
  pub names : List Name
  pub classes : List ClassDecl
  pub references : List ReferenceDecl
  pub predicates : List PredicateDecl
  pub items : List Item
  pub bounds : List Bound
  pub assertions : List AssertDecl
  pub atoms : List Name
  pub mentions : List Name

-- what the statements declare and state
abbrev pub declared_by : List Statement → Declared
declared_by statements = record {
  names = flat_map names_in statements;
  classes = flat_map classes_in statements;
  references = references_of 0 (flat_map classes_in statements);
  predicates = flat_map predicates_in statements;
  items = flat_map items_in statements;
  bounds = flat_map bounds_in statements;
  assertions = flat_map assertions_in statements;
  atoms = flat_map atoms_in statements;
  mentions = flat_map (mentions_in (flat_map atoms_in statements)) statements;
}

abbrev pub declared_in : Ast → Declared
declared_in ast = declared_by ast.statements

-- the kind of a reference, by the word before it
abbrev pub kind_of_word : Option FeatureWord → RefKind
kind_of_word None = Plain
kind_of_word (Some Refers) = Plain
kind_of_word (Some ContainsWord) = Contains
kind_of_word (Some ContainerWord) = Container

-- numbers of 32 bits are enough for what has such numbers: classes, references and predicates
pub record AreFew (d : Declared) : Type 0 where
  pub classes : length d.classes < 2 ^ 32
  pub references : length d.references < 2 ^ 32
  pub predicates : length d.predicates < 2 ^ 32
