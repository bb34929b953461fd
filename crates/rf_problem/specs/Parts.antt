-- References, predicates, objects and scopes by their numbers, and what kinds of symbol there are.
use Rattle.std.specs.Prelude.{nat_eq, ℕ, Bool, true, false, List, [], slice_index_or, None}
use Rattle.std.specs.declared.cmp.Ordering.{Ordering}
use Rattle.rf_problem.specs.declared.object.ObjectDecl.{ObjectDecl}
use Rattle.rf_problem.specs.declared.object.ObjectKind.TheVariants.{Plain as PlainObject}
use Rattle.rf_problem.specs.declared.object.ObjectName.TheVariants.{NewOf}
use Rattle.rf_problem.specs.declared.predicate.Predicate.{Predicate}
use Rattle.rf_problem.specs.declared.reference.RefKind.{RefKind}
use Rattle.rf_problem.specs.declared.reference.RefKind.TheVariants.{Plain, Contains, Container}
use Rattle.rf_problem.specs.declared.reference.Reference.{Reference as Relation}
use Rattle.rf_problem.specs.declared.scope.Scope.{Scope}
use Rattle.rf_problem.specs.contracts.symbol.SymbolOrd.TheImpl as symbol_ord
use Rattle.rf_problem.specs.declared.symbol.Symbol.{Symbol}
use Rattle.rf_problem.specs.declared.symbol.Symbol.TheVariants.{Class, Reference, Predicate as Defined, Exists, Equals}

-- what stands where no reference, predicate, object or scope has the number
abbrev pub no_reference : Relation
no_reference = record { name = []; kind = Plain; source = 0; target = 0; range = record { lo = 0; hi = None }; opposite = None }

abbrev pub no_predicate : Predicate
no_predicate = record { name = []; is_error = false; arity = 0; clauses = [] }

abbrev pub no_object : ObjectDecl
no_object = record { name = NewOf 0; count = record { lo = 0; hi = None }; kind = PlainObject }

abbrev pub no_scope : Scope
no_scope = record { class = None; only_new = false; range = record { lo = 0; hi = None } }

-- the reference, the predicate, the object, the scope of this number
abbrev pub reference_at : List Relation → ℕ → Relation
reference_at references r = slice_index_or references r no_reference

abbrev pub predicate_at : List Predicate → ℕ → Predicate
predicate_at predicates q = slice_index_or predicates q no_predicate

abbrev pub object_at : List ObjectDecl → ℕ → ObjectDecl
object_at objects o = slice_index_or objects o no_object

abbrev pub scope_at : List Scope → ℕ → Scope
scope_at scopes s = slice_index_or scopes s no_scope

-- whether a source contains its targets
abbrev pub is_contains : RefKind → Bool
is_contains Plain = false
is_contains Contains = true
is_contains Container = false

-- whether two symbols are the same
abbrev pub same_symbol : Symbol → Symbol → Bool
same_symbol (Class a) (Class b) = nat_eq a b
same_symbol (Reference a) (Reference b) = nat_eq a b
same_symbol (Defined a) (Defined b) = nat_eq a b
same_symbol Exists Exists = true
same_symbol Equals Equals = true
same_symbol _ _ = false

-- the order of symbols, by which tables have them
abbrev pub symbol_cmp : Symbol → Symbol → Ordering
symbol_cmp = (symbol_ord.ghosts).cmp

-- how many arguments a symbol has
abbrev pub arity_of : List Predicate → Symbol → ℕ
arity_of predicates (Class c) = 1
arity_of predicates (Reference r) = 2
arity_of predicates (Defined q) = (predicate_at predicates q).arity
arity_of predicates Exists = 1
arity_of predicates Equals = 2
