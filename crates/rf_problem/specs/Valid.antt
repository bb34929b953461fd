-- What every problem keeps.
use Rattle.std.specs.Prelude.{◌≡◌, ◌≢◌, ◌+◌, ◌<◌, ◌≤◌, ◌==◌, ◌&&◌, ◌||◌, ◌++◌, ◌∷◌, not, nat_lt, ℕ, suc, Bool, true, false, IsTrue, Option, None, Some, List, [], map, length, take, slice_index_or, All, AllPairs, filter, if◌then◌else◌}
use Rattle.std.specs.Option.{ForSome}
use Rattle.std.specs.List.{list_all, list_any}
use Rattle.rf_bounds.specs.declared.TheConstants.{GREATEST_NUMBER, MOST_ASSERTIONS, MOST_CLASSES, MOST_CLAUSES, MOST_LITERALS, MOST_OBJECTS, MOST_PARAMETERS, MOST_PREDICATES, MOST_REFERENCES, MOST_SCOPES, MOST_VARIABLES}
use Rattle.rf_text.specs.Written.{CanBeQuoted}
use Rattle.rf_finite.specs.Walks.{HasNoCycle}
use Rattle.rf_values.specs.declared.count.Count.{Count}
use Rattle.rf_problem.specs.Parts.{arity_of, object_at, predicate_at, reference_at}
use Rattle.rf_problem.specs.Classes.{class_at, extends}
use Rattle.rf_problem.specs.declared.assertion.Assertion.{Assertion}
use Rattle.rf_problem.specs.declared.class.Class.{Class}
use Rattle.rf_problem.specs.declared.object.ObjectDecl.{ObjectDecl}
use Rattle.rf_problem.specs.declared.object.ObjectKind.{ObjectKind}
use Rattle.rf_problem.specs.declared.object.ObjectKind.TheVariants.{Plain, Atom, LiteralOf}
use Rattle.rf_problem.specs.declared.object.ObjectName.{ObjectName}
use Rattle.rf_problem.specs.declared.object.ObjectName.TheVariants.{Named, NewOf}
use Rattle.rf_problem.specs.declared.predicate.Clause.{Clause}
use Rattle.rf_problem.specs.declared.predicate.Literal.{Literal}
use Rattle.rf_problem.specs.declared.predicate.Literal.TheVariants.{Call, Same, Differ}
use Rattle.rf_problem.specs.declared.predicate.Predicate.{Predicate}
use Rattle.rf_problem.specs.declared.predicate.Term.{Term}
use Rattle.rf_problem.specs.declared.predicate.Term.TheVariants.{Var, Atom as AtomOf}
use Rattle.rf_problem.specs.declared.reference.Reference.{Reference as Relation}
use Rattle.rf_problem.specs.declared.scope.Scope.{Scope}
use Rattle.rf_problem.specs.declared.symbol.Symbol.{Symbol}
use Rattle.rf_problem.specs.declared.symbol.Symbol.TheVariants.{Class as OfClass, Reference, Predicate as Defined, Exists, Equals}

-- the ends of a count are at most that
pub record IsSmall (c : Count) : Type 0 where
  pub lower : c.lo ≤ GREATEST_NUMBER
  pub upper : ForSome c.hi (λ n. n ≤ GREATEST_NUMBER)

-- whether, where it is an enum, it isn't abstract and extends nothing
abbrev pub fits_enum : Class → Bool
fits_enum c = not c.is_enum || (not c.is_abstract && (length c.supers == 0))

-- whether a class extends no enum
abbrev pub extends_no_enum : List Class → Class → Bool
extends_no_enum classes c = list_all (λ s. not (class_at classes s).is_enum) c.supers

-- the classes, enums among them: not too many, with names, no two the same; each extends classes that aren't enums, and none
-- itself, directly or through others
pub record AreClasses (classes : List Class) : Type 0 where
  pub few : length classes ≤ MOST_CLASSES
  pub named : All (λ c. CanBeQuoted c.name) classes
  pub apart : AllPairs (λ c d. c.name ≢ d.name) classes
  pub supers : All (λ c. All (λ s. s < length classes) c.supers) classes
  pub enums : All (λ c. IsTrue (fits_enum c)) classes
  pub extendable : All (λ c. IsTrue (extends_no_enum classes c)) classes
  pub no_cycle : HasNoCycle (extends classes) (length classes)

-- references r and s are each other's opposites, and lead between the same classes
pub record AreMirrored (references : List Relation) (r s : ℕ) : Type 0 where
  pub there : s < length references
  pub back : (reference_at references s).opposite ≡ Some r
  pub source : (reference_at references s).source ≡ (reference_at references r).target
  pub target : (reference_at references s).target ≡ (reference_at references r).source

-- the references: not too many, with names, no two of one class the same, between classes; opposites are mutual
pub record AreReferences (classes : List Class) (references : List Relation) : Type 0 where
  pub few : length references ≤ MOST_REFERENCES
  pub named : All (λ r. CanBeQuoted r.name) references
  pub apart : AllPairs (λ r s. r.source ≡ s.source → r.name ≢ s.name) references
  pub sources : All (λ r. r.source < length classes) references
  pub targets : All (λ r. r.target < length classes) references
  pub ranges : All (λ r. IsSmall r.range) references
  pub mirrored : (r : ℕ) → r < length references → ForSome (reference_at references r).opposite (AreMirrored references r)

-- whether an object has a name of its own
abbrev pub is_named : ObjectName → Bool
is_named (Named name) = true
is_named (NewOf c) = false

-- the object that the new nodes of a class come from: any number of them
abbrev pub new_object : ℕ → ObjectDecl
new_object class = record { name = NewOf class; count = record { lo = 0; hi = None }; kind = Plain }

-- whether a class has an object that its new nodes come from: it is neither abstract nor an enum
abbrev pub has_new : Class → Bool
has_new c = not c.is_abstract && not c.is_enum

-- the numbers, from n on, of the classes that have one
abbrev pub new_numbers : ℕ → List Class → List ℕ
new_numbers n [] = []
new_numbers n (c ∷ cs) = if has_new c then n ∷ new_numbers (suc n) cs else new_numbers (suc n) cs

-- the objects that have names of their own
abbrev pub named_objects : List ObjectDecl → List ObjectDecl
named_objects objects = filter (λ o. is_named o.name) objects

-- a name of an object, where it has one of its own
abbrev pub HasName : ObjectName → (List ℕ → Type 0) → Type 0
HasName name P = (own : List ℕ) → name ≡ Named own → P own

-- whether an object of this name may be of a kind: a literal has a name and is of an enum, and an object without a name is plain
abbrev pub fits_kind : List Class → ObjectName → ObjectKind → Bool
fits_kind classes name Plain = true
fits_kind classes name Atom = is_named name
fits_kind classes name (LiteralOf e) = is_named name && (nat_lt e (length classes) && (class_at classes e).is_enum)

-- whether an object of this kind may be named in bodies
abbrev pub is_atom : ObjectKind → Bool
is_atom Plain = false
is_atom Atom = true
is_atom (LiteralOf e) = true

-- an atom stands for one node
abbrev pub FitsCount : ObjectKind → Count → Type 0
FitsCount kind c = is_atom kind ≡ true → c ≡ record { lo = 1; hi = Some 1 }

-- the objects: the named ones, not too many and no two the same, and after them the new object of each class that has one
pub record AreObjects (classes : List Class) (objects : List ObjectDecl) : Type 0 where
  pub few : length (named_objects objects) ≤ MOST_OBJECTS
  pub named : All (λ o. HasName o.name CanBeQuoted) objects
  pub apart : AllPairs (λ o q. HasName o.name (λ name. HasName q.name (λ other. name ≢ other))) objects
  pub counts : All (λ o. IsSmall o.count) objects
  pub kinds : All (λ o. IsTrue (fits_kind classes o.name o.kind)) objects
  pub atoms : All (λ o. FitsCount o.kind o.count) objects
  pub stocked : objects ≡ named_objects objects ++ map new_object (new_numbers 0 classes)

-- whether a symbol stands for a class, a reference or a predicate that is there
abbrev pub is_declared : ℕ → ℕ → ℕ → Symbol → Bool
is_declared classes references predicates (OfClass c) = nat_lt c classes
is_declared classes references predicates (Reference r) = nat_lt r references
is_declared classes references predicates (Defined q) = nat_lt q predicates
is_declared classes references predicates Exists = false
is_declared classes references predicates Equals = false

-- whether an assertion may speak of a symbol
abbrev pub is_asserted : ℕ → ℕ → ℕ → Symbol → Bool
is_asserted classes references predicates (OfClass c) = nat_lt c classes
is_asserted classes references predicates (Reference r) = nat_lt r references
is_asserted classes references predicates (Defined q) = nat_lt q predicates
is_asserted classes references predicates Exists = true
is_asserted classes references predicates Equals = true

-- whether a symbol has steps: it has two arguments and is no class
abbrev pub has_steps : List Predicate → Symbol → Bool
has_steps predicates (Reference r) = true
has_steps predicates (Defined q) = (predicate_at predicates q).arity == 2
has_steps predicates _ = false

-- whether a variable with this entry may stand in literal i: it ranges over the clause, or inside the negation of this literal
abbrev pub ranges_over : Option ℕ → ℕ → Bool → Bool
ranges_over None i negated = true
ranges_over (Some j) i negated = negated && (i == j)

abbrev pub may_stand : List (Option ℕ) → ℕ → Bool → ℕ → Bool
may_stand variables i negated v = nat_lt v (length variables) && ranges_over (slice_index_or variables v None) i negated

-- whether a term may stand in literal i: a variable that may, or an atom
abbrev pub fits_term : List ObjectDecl → List (Option ℕ) → ℕ → Bool → Term → Bool
fits_term objects variables i negated (Var v) = may_stand variables i negated v
fits_term objects variables i negated (AtomOf o) = nat_lt o (length objects) && is_atom (object_at objects o).kind

-- whether literal i calls a symbol that is there by its number of arguments, and its terms may stand in it
abbrev pub fits_literal : ℕ → ℕ → List ObjectDecl → List Predicate → List (Option ℕ) → ℕ → Literal → Bool
fits_literal classes references objects predicates variables i (Call negated closure symbol args) =
    is_declared classes references (length predicates) symbol
    && ((length args == arity_of predicates symbol)
    && ((not closure || has_steps predicates symbol)
    && list_all (fits_term objects variables i negated) args))
fits_literal classes references objects predicates variables i (Same a b) =
    fits_term objects variables i false a && fits_term objects variables i false b
fits_literal classes references objects predicates variables i (Differ a b) =
    fits_term objects variables i false a && fits_term objects variables i false b

-- whether the literals from number i on do
abbrev pub fit_literals : ℕ → ℕ → List ObjectDecl → List Predicate → List (Option ℕ) → ℕ → List Literal → Bool
fit_literals classes references objects predicates variables i [] = true
fit_literals classes references objects predicates variables i (l ∷ ls) =
    fits_literal classes references objects predicates variables i l && fit_literals classes references objects predicates variables (suc i) ls

-- whether a variable ranges over the clause
abbrev pub is_free : Option ℕ → Bool
is_free None = true
is_free (Some i) = false

-- a clause of a predicate of so many parameters: they come first among its variables, which are not too many, and range
-- over the clause; it has not too many literals beside one for each parameter, and they fit
pub record FitsClause (classes references : ℕ) (objects : List ObjectDecl) (predicates : List Predicate) (arity : ℕ) (c : Clause) : Type 0 where
  pub few_variables : length c.variables ≤ MOST_VARIABLES
  pub few_literals : length c.literals ≤ MOST_LITERALS + arity
  pub parameters : arity ≤ length c.variables
  pub free : IsTrue (list_all is_free (take arity c.variables))
  pub literals : IsTrue (fit_literals classes references objects predicates c.variables 0 c.literals)

-- whether a literal calls a predicate
abbrev pub calls_predicate : ℕ → Literal → Bool
calls_predicate q (Call negated closure (Defined p) args) = p == q
calls_predicate q _ = false

-- whether a clause of predicate p calls predicate q
abbrev pub calls : List Predicate → ℕ → ℕ → Bool
calls predicates p q = list_any (λ c. list_any (calls_predicate q) c.literals) (predicate_at predicates p).clauses

-- the predicates: not too many, of not too many parameters and clauses; none calls itself, directly or through others
pub record ArePredicates (classes : List Class) (references : List Relation) (objects : List ObjectDecl) (predicates : List Predicate) : Type 0 where
  pub few : length predicates ≤ MOST_PREDICATES
  pub named : All (λ p. CanBeQuoted p.name) predicates
  pub arities : All (λ p. p.arity ≤ MOST_PARAMETERS) predicates
  pub few_clauses : All (λ p. length p.clauses ≤ MOST_CLAUSES) predicates
  pub clauses : All (λ p. All (FitsClause (length classes) (length references) objects predicates p.arity) p.clauses) predicates
  pub no_cycle : HasNoCycle (calls predicates) (length predicates)

-- an assertion speaks of a symbol that is there by its number of arguments, and of objects that are there
pub record FitsAssertion (classes references : ℕ) (predicates : List Predicate) (objects : ℕ) (a : Assertion) : Type 0 where
  pub symbol : IsTrue (is_asserted classes references (length predicates) a.symbol)
  pub arity : length a.args ≡ arity_of predicates a.symbol
  pub args : All (λ arg. ForSome arg (λ o. o < objects)) a.args

-- the assertions: not too many
pub record AreAssertions (classes : List Class) (references : List Relation) (predicates : List Predicate) (objects : List ObjectDecl)
    (assertions : List Assertion) : Type 0 where
  pub few : length assertions ≤ MOST_ASSERTIONS
  pub each : All (FitsAssertion (length classes) (length references) predicates (length objects)) assertions

-- the scopes: not too many, each of all nodes or of a class
pub record AreScopes (classes : List Class) (scopes : List Scope) : Type 0 where
  pub few : length scopes ≤ MOST_SCOPES
  pub classes_there : All (λ s. ForSome s.class (λ c. c < length classes)) scopes
  pub ranges : All (λ s. IsSmall s.range) scopes
