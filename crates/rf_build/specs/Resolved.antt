-- The problem that declarations stand for: each list is that of the declarations in order, and each number
-- that of what its name stands for.
use Rattle.std.specs.Prelude.{ℕ, Option, None, Some, map, List, [], ◌∷◌, true, false, suc, ◌++◌, ◌==◌, Bool, ◌&&◌, if◌then◌else◌, nat_lt, length, ◌≡◌}
use Rattle.std.specs.List.{list_any, range_with_len}
use Rattle.rf_syntax.specs.declared.range.Upper.{Upper}
use Rattle.rf_syntax.specs.declared.range.Upper.TheVariants.{Absent, Star as Unbounded, Number}
use Rattle.rf_syntax.specs.declared.range.Range.{Range}
use Rattle.rf_values.specs.declared.count.Count.{Count}
use Rattle.rf_syntax.specs.declared.class.MultPlace.{MultPlace}
use Rattle.rf_syntax.specs.declared.class.MultPlace.TheVariants.{Absent as NoMult, AfterType, AfterName}
use Rattle.rf_problem.specs.declared.class.Class.{Class}
use Rattle.rf_problem.specs.declared.reference.Reference.{Reference}
use Rattle.rf_problem.specs.declared.predicate.Literal.{Literal}
use Rattle.rf_problem.specs.declared.predicate.Literal.TheVariants.{Call as Calls, Same as IsSame, Differ as Differs}
use Rattle.rf_syntax.specs.declared.name.Name.{Name}
use Rattle.rf_syntax.specs.declared.predicate.BodyLiteral.{BodyLiteral}
use Rattle.rf_syntax.specs.declared.predicate.BodyLiteral.TheVariants.{Call, Same, Differ}
use Rattle.rf_problem.specs.declared.symbol.Symbol.TheVariants.{Class as OfClass}
use Rattle.rf_syntax.specs.declared.predicate.Param.{Param}
use Rattle.rf_problem.specs.declared.predicate.Clause.{Clause}
use Rattle.rf_problem.specs.declared.predicate.Predicate.{Predicate}
use Rattle.rf_syntax.specs.declared.statement.Item.{Item}
use Rattle.rf_problem.specs.declared.object.ObjectDecl.{ObjectDecl}
use Rattle.rf_problem.specs.declared.object.ObjectKind.{ObjectKind}
use Rattle.rf_problem.specs.declared.object.ObjectKind.TheVariants.{Plain as PlainKind, Atom as AtomKind, LiteralOf}
use Rattle.rf_problem.specs.declared.object.ObjectName.TheVariants.{Named}
use Rattle.rf_problem.specs.declared.predicate.Term.{Term}
use Rattle.rf_problem.specs.declared.predicate.Term.TheVariants.{Var, Atom}
use Rattle.rf_syntax.specs.declared.assertion.Arg.{Arg}
use Rattle.rf_syntax.specs.declared.assertion.Arg.TheVariants.{Star, Symbol as OfSymbol}
use Rattle.rf_problem.specs.declared.assertion.Assertion.{Assertion}
use Rattle.rf_problem.specs.declared.scope.Scope.{Scope}
use Rattle.rf_syntax.specs.declared.statement.Bound.{Bound}
use Rattle.rf_problem.specs.declared.problem.Problem.{Problem}
use Rattle.rf_problem.specs.Valid.{new_numbers, new_object}
use Rattle.rf_names.specs.Declarations.{ClassDecl, Declared, ReferenceDecl, kind_of_word, PredicateDecl, AssertDecl, object_name, param_names}
use Rattle.rf_names.specs.Texts.{reads}
use Rattle.rf_names.specs.LookUp.{class_named, enum_of, the_number, opposite_of, literal_symbols, sense_of, the_symbol, numbers_where, item_named, new_object_of, object_named, named_objects, sensed, SensedDecl}
use Rattle.rf_names.specs.Bodies.{term_of, terms_of, with_argument, literal_names, with_variables, clause_variables}

-- the upper end of a range: that of its lower number alone is that number
abbrev pub upper_end : ℕ → Upper → Option ℕ
upper_end lo Absent = Some lo
upper_end lo Unbounded = None
upper_end lo (Number n) = Some n

abbrev pub count_of_range : Range → Count
count_of_range r = record { lo = r.lo; hi = upper_end r.lo r.hi }

-- any number
abbrev pub any_number : Count
any_number = record { lo = 0; hi = None }

-- the count of a range that may be left out: any number without it
abbrev pub count_or_any : Option Range → Count
count_or_any None = any_number
count_or_any (Some r) = count_of_range r

-- the range of a reference: 0 to 1 without a multiplicity, any number by empty brackets
abbrev pub count_of_mult : MultPlace → Count
count_of_mult NoMult = record { lo = 0; hi = Some 1 }
count_of_mult (AfterType m) = count_or_any m.range
count_of_mult (AfterName m) = count_or_any m.range

-- a class
abbrev pub resolved_class : Declared → ClassDecl → Class
resolved_class d c = record {
  name = c.name.text;
  is_abstract = c.is_abstract;
  is_enum = c.is_enum;
  supers = map (λ s. the_number (class_named d s.text)) c.supers;
}

-- a reference
abbrev pub resolved_reference : Declared → ReferenceDecl → Reference
resolved_reference d r = record {
  name = r.feature.name.text;
  kind = kind_of_word r.feature.word;
  source = r.source;
  target = the_number (class_named d r.feature.target.text);
  range = count_of_mult r.feature.mult;
  opposite = opposite_of d r r.feature.opposite;
}

-- a literal after these variables
abbrev pub resolved_literal : Declared → List Param → List Name → BodyLiteral → Literal
resolved_literal d params known (Call negated symbol closure args) =
    Calls negated closure (the_symbol (sense_of (literal_symbols d symbol))) (terms_of d params known args)
resolved_literal d params known (Same a b) =
    IsSame (term_of d params known a) (term_of d params (with_argument d params known a) b)
resolved_literal d params known (Differ a b) =
    Differs (term_of d params known a) (term_of d params (with_argument d params known a) b)

-- literals, one after another
abbrev pub resolved_literals : Declared → List Param → List Name → List BodyLiteral → List Literal
resolved_literals d params known [] = []
resolved_literals d params known (l ∷ ls) =
    resolved_literal d params known l ∷ resolved_literals d params (with_variables known (literal_names d params l)) ls

-- the literal of a parameter that has a class, where n is the number of the parameter
abbrev pub class_literal : Declared → ℕ → Option Name → List Literal
class_literal d n None = []
class_literal d n (Some class) = Calls false false (OfClass (the_number (class_named d class.text))) (Var n ∷ []) ∷ []

-- those of the parameters, which have the numbers from n on
abbrev pub class_literals : Declared → ℕ → List Param → List Literal
class_literals d n [] = []
class_literals d n (p ∷ ps) = class_literal d n p.class ++ class_literals d (suc n) ps

-- whether a term is variable v
abbrev pub is_variable : ℕ → Term → Bool
is_variable v (Var u) = u == v
is_variable v (Atom o) = false

-- whether a literal names variable v
abbrev pub mentions : ℕ → Literal → Bool
mentions v (Calls negated closure symbol args) = list_any (is_variable v) args
mentions v (IsSame a b) = list_any (is_variable v) (a ∷ b ∷ [])
mentions v (Differs a b) = list_any (is_variable v) (a ∷ b ∷ [])

-- whether it is negated and names variable v
abbrev pub negates : ℕ → Literal → Bool
negates v (Calls negated closure symbol args) = negated && list_any (is_variable v) args
negates v (IsSame a b) = false
negates v (Differs a b) = false

-- the one literal, where there is one alone
abbrev pub only_one : List ℕ → Option ℕ
only_one [] = None
only_one (i ∷ []) = Some i
only_one (i ∷ j ∷ is) = None

-- where a variable is quantified: inside the one literal that names it, where that is negated, else
-- over the clause
abbrev pub negation_around : List Literal → ℕ → Option ℕ
negation_around literals v =
    if list_any (negates v) literals then only_one (numbers_where 0 (mentions v) literals) else None

-- the entry of a variable; parameters have none
abbrev pub entry_of : ℕ → List Literal → ℕ → Option ℕ
entry_of arity literals v = if nat_lt v arity then None else negation_around literals v

-- a clause: its literals as they are written, and after them those of the typed parameters
abbrev pub all_literals : Declared → List Param → List BodyLiteral → List Literal
all_literals d params clause = resolved_literals d params (param_names params) clause ++ class_literals d 0 params

abbrev pub resolved_clause : Declared → List Param → List BodyLiteral → Clause
resolved_clause d params clause = record {
  variables = map (entry_of (length params) (all_literals d params clause)) (range_with_len 0 (length (clause_variables d params clause)));
  literals = all_literals d params clause;
}

-- a predicate
abbrev pub resolved_predicate : Declared → PredicateDecl → Predicate
resolved_predicate d p = record {
  name = p.name.text;
  is_error = p.is_error;
  arity = length p.params;
  clauses = map (resolved_clause d p.params) p.clauses;
}

-- the count of a named object: that of its `multi`, and one without it
abbrev pub count_of_item : Option Item → Count
count_of_item None = record { lo = 1; hi = Some 1 }
count_of_item (Some i) = count_or_any i.range

-- the kind of an object that isn't a literal, by whether it is an atom
abbrev pub kind_by_atom : Bool → ObjectKind
kind_by_atom true = AtomKind
kind_by_atom false = PlainKind

-- the kind of a named object, by the enum of which it is a literal, if it is one of any
abbrev pub kind_by_enum : Option ℕ → Bool → ObjectKind
kind_by_enum None is_atom = kind_by_atom is_atom
kind_by_enum (Some e) is_atom = LiteralOf e

abbrev pub kind_of_object : Declared → List ℕ → ObjectKind
kind_of_object d text = kind_by_enum (enum_of d text) (list_any (reads text) d.atoms)

-- a named object
abbrev pub resolved_object : Declared → Name → ObjectDecl
resolved_object d n = record {
  name = Named n.text;
  count = count_of_item (item_named d n.text);
  kind = kind_of_object d n.text;
}

-- the objects of a problem with these classes: the named ones, and after them those that new nodes of the classes come from
abbrev pub resolved_objects : Declared → List Class → List ObjectDecl
resolved_objects d classes = map (resolved_object d) (named_objects d) ++ map new_object (new_numbers 0 classes)

-- the object that an argument stands for: the named one, or else the new object of the class
abbrev pub object_or_new : Declared → Option Name → Name → ℕ
object_or_new d None class = new_object_of d (the_number (class_named d class.text))
object_or_new d (Some name) class = the_number (object_named d name.text)

abbrev pub resolved_arg : Declared → Arg → Option ℕ
resolved_arg d Star = None
resolved_arg d (OfSymbol s) = Some (object_or_new d (object_name s.name s.member) s.name)

-- an assertion
abbrev pub resolved_sensed : Declared → SensedDecl → Assertion
resolved_sensed d a = record {
  is_default = a.form.is_default;
  symbol = the_symbol a.sense;
  args = map (resolved_arg d) a.form.atom.args;
  value = a.form.value;
}

abbrev pub resolved_assertion : Declared → AssertDecl → Assertion
resolved_assertion d a = resolved_sensed d (sensed d a)

-- a scope; `node` stands for no class
abbrev pub resolved_scope : Declared → Bound → Scope
resolved_scope d b = record { class = class_named d b.name.text; only_new = b.only_new; range = count_of_range b.range }

-- the problem is the one that the declarations stand for
pub record IsResolved (d : Declared) (p : Problem) : Type 0 where
  pub classes : p.classes ≡ map (resolved_class d) d.classes
  pub references : p.references ≡ map (resolved_reference d) d.references
  pub predicates : p.predicates ≡ map (resolved_predicate d) d.predicates
  pub objects : p.objects ≡ resolved_objects d p.classes
  pub assertions : p.assertions ≡ map (resolved_assertion d) d.assertions
  pub scopes : p.scopes ≡ map (resolved_scope d) d.bounds
