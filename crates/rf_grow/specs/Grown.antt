-- The problem of a number n: one whole with n parts in a row, of which the last one may have a next part.
use Rattle.std.specs.Prelude.{◌≡◌, ◌+◌, ◌-◌, ℕ, true, false, List, [], ◌∷◌, ◌++◌, Option, None, Some, map, codes, decimal}
use Rattle.std.specs.List.{range_with_len}
use Rattle.rf_values.specs.declared.count.Count.{Count}
use Rattle.rf_values.specs.declared.truth.Truth.{Truth}
use Rattle.rf_values.specs.declared.truth.Truth.TheVariants.{True, False, Unknown}
use Rattle.rf_problem.specs.Valid.{new_object}
use Rattle.rf_problem.specs.declared.assertion.Assertion.{Assertion}
use Rattle.rf_problem.specs.declared.class.Class.{Class}
use Rattle.rf_problem.specs.declared.object.ObjectDecl.{ObjectDecl}
use Rattle.rf_problem.specs.declared.object.ObjectKind.TheVariants.{Plain}
use Rattle.rf_problem.specs.declared.object.ObjectName.TheVariants.{Named}
use Rattle.rf_problem.specs.declared.predicate.Clause.{Clause}
use Rattle.rf_problem.specs.declared.predicate.Literal.TheVariants.{Call}
use Rattle.rf_problem.specs.declared.predicate.Predicate.{Predicate}
use Rattle.rf_problem.specs.declared.predicate.Term.TheVariants.{Var}
use Rattle.rf_problem.specs.declared.problem.Problem.{Problem}
use Rattle.rf_problem.specs.declared.reference.RefKind.TheVariants.{Plain as Crossing, Contains}
use Rattle.rf_problem.specs.declared.reference.Reference.{Reference as Relation}
use Rattle.rf_problem.specs.declared.scope.Scope.{Scope}
use Rattle.rf_problem.specs.declared.symbol.Symbol.{Symbol}
use Rattle.rf_problem.specs.declared.symbol.Symbol.TheVariants.{Class as OfClass, Reference}

-- exactly so many
abbrev pub exactly : ℕ → Count
exactly n = record { lo = n; hi = Some n }

-- the classes Top and Part
abbrev pub plain_class : List ℕ → Class
plain_class name = record { name = name; is_abstract = false; is_enum = false; supers = [] }

abbrev pub grown_classes : List Class
grown_classes = plain_class (codes "Top") ∷ plain_class (codes "Part") ∷ []

-- a Top contains any number of parts, and a Part has a next one at most
abbrev pub parts_reference : Relation
parts_reference = record {
  name = codes "parts";
  kind = Contains;
  source = 0;
  target = 1;
  range = record { lo = 0; hi = None };
  opposite = None;
}

abbrev pub next_reference : Relation
next_reference = record {
  name = codes "next";
  kind = Crossing;
  source = 1;
  target = 1;
  range = record { lo = 0; hi = Some 1 };
  opposite = None;
}

abbrev pub grown_references : List Relation
grown_references = parts_reference ∷ next_reference ∷ []

-- no part leads back to itself from next part to next part
abbrev pub loop_clause : Clause
loop_clause = record {
  variables = None ∷ [];
  literals = Call false true (Reference 1) (Var 0 ∷ Var 0 ∷ []) ∷ [];
}

abbrev pub grown_predicates : List Predicate
grown_predicates = record { name = codes "loop"; is_error = true; arity = 1; clauses = loop_clause ∷ [] } ∷ []

-- an object that is one node, of this name
abbrev pub one_node : List ℕ → ObjectDecl
one_node name = record { name = Named name; count = exactly 1; kind = Plain }

-- the name of part k, from 0
abbrev pub part_name : ℕ → List ℕ
part_name k = codes "p" ++ decimal k

-- the whole as object 0, part k as object k + 1, and after them the new objects of both classes
abbrev pub part_object : ℕ → ObjectDecl
part_object k = one_node (part_name k)

abbrev pub grown_objects : ℕ → List ObjectDecl
grown_objects n = one_node (codes "t") ∷ (map part_object (range_with_len 0 n) ++ (new_object 0 ∷ new_object 1 ∷ []))

-- an assertion
abbrev pub states : Truth → Symbol → List (Option ℕ) → Assertion
states value symbol args = record { is_default = false; symbol = symbol; args = args; value = value }

-- unless it is said, no edge of a reference is there
abbrev pub denies_others : ℕ → Assertion
denies_others r = record { is_default = true; symbol = Reference r; args = None ∷ None ∷ []; value = False }

-- part k is a part of the whole
abbrev pub contains_part : ℕ → Assertion
contains_part k = states True (Reference 0) (Some 0 ∷ Some (k + 1) ∷ [])

-- part k has the one after it as its next one
abbrev pub leads_on : ℕ → Assertion
leads_on k = states True (Reference 1) (Some (k + 1) ∷ Some (k + 2) ∷ [])

-- it isn't known where the last of n parts leads
abbrev pub last_is_open : ℕ → Assertion
last_is_open n = states Unknown (Reference 1) (Some n ∷ None ∷ [])

-- what is said: no edges but those named; the whole is a Top, each part is one of it and leads on to the one after it, and the last
-- one may lead anywhere
abbrev pub grown_assertions : ℕ → List Assertion
grown_assertions n =
    denies_others 0 ∷ denies_others 1 ∷ states True (OfClass 0) (Some 0 ∷ [])
    ∷ ((map contains_part (range_with_len 0 n) ++ map leads_on (range_with_len 0 (n - 1))) ++ (last_is_open n ∷ []))

-- there are n + 1 nodes: the whole and its parts
abbrev pub grown_scopes : ℕ → List Scope
grown_scopes n = record { class = None; only_new = false; range = exactly (n + 1) } ∷ []

-- the problem of n
pub record IsGrown (n : ℕ) (p : Problem) : Type 0 where
  pub classes : p.classes ≡ grown_classes
  pub references : p.references ≡ grown_references
  pub predicates : p.predicates ≡ grown_predicates
  pub objects : p.objects ≡ grown_objects n
  pub assertions : p.assertions ≡ grown_assertions n
  pub scopes : p.scopes ≡ grown_scopes n
