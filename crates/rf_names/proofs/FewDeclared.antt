-- A text declares no more of a kind than it has tokens.
use Rattle.std.proofs.Common.{◌≡◌, ◌∙◌, ℕ, suc, ◌+◌, ◌<◌, ◌≤◌, ◌^◌, List, [], ◌∷◌, ◌++◌, length, None, Some, refl, ap, arith}
use Rattle.std.proofs.lemmas.List.{length-append, length-map}
use Rattle.std.proofs.lemmas.List.Concat.{flat_map-append}
use Rattle.std.specs.List.{flat_map}
use Rattle.rf_syntax.specs.Class.{feature_pieces}
use Rattle.rf_syntax.specs.Piece.{Piece}
use Rattle.rf_syntax.specs.Statement.{pieces_of, spelling_of, statement_pieces}
use Rattle.rf_syntax.specs.declared.class.Feature.{Feature}
use Rattle.rf_syntax.specs.declared.predicate.PredicateWord.TheVariants.{Pred, Error, ErrorPred}
use Rattle.rf_syntax.specs.declared.statement.Ast.{Ast}
use Rattle.rf_syntax.specs.declared.statement.Statement.{Statement}
use Rattle.rf_syntax.specs.declared.statement.Statement.TheVariants.{Class, Enum, Predicate, Declare, Multi, Atoms, Scope, Assert}
use Rattle.rf_names.specs.Declarations.{AreFew, ClassDecl, classes_in, declared_in, predicates_in, references_of}

-- no longer, item by item
flat_map-le :
    {X A B : Type 0} (f : X → List A) (g : X → List B) → ((x : X) → length (f x) ≤ length (g x)) → (xs : List X) →
    length (flat_map f xs) ≤ length (flat_map g xs)
flat_map-le f g each [] = omega arith
flat_map-le f g each (x ∷ xs) =
    omega (arith, each x, flat_map-le f g each xs, length-append (f x) (flat_map f xs), length-append (g x) (flat_map g xs))

-- where each has something, there are as many as items
flat_map-some : {X A : Type 0} (f : X → List A) → ((x : X) → 1 ≤ length (f x)) → (xs : List X) → length xs ≤ length (flat_map f xs)
flat_map-some f each [] = omega arith
flat_map-some f each (x ∷ xs) = omega (arith, each x, flat_map-some f each xs, length-append (f x) (flat_map f xs))

feature_some : (f : Feature) → 1 ≤ length (feature_pieces f)
feature_some f = simp length-append (omega arith)

class_fits : (s : Statement) → length (classes_in s) ≤ length (statement_pieces s)
class_fits (Class is_abstract name supers body) = simp length-append (omega arith)
class_fits (Enum name literals) = simp length-append (omega arith)
class_fits (Predicate start name params clauses) = omega arith
class_fits (Declare names) = omega arith
class_fits (Multi items) = omega arith
class_fits (Atoms names) = omega arith
class_fits (Scope bounds) = omega arith
class_fits (Assert is_default assertion) = omega arith

predicate_fits : (s : Statement) → length (predicates_in s) ≤ length (statement_pieces s)
predicate_fits (Class is_abstract name supers body) = omega arith
predicate_fits (Enum name literals) = omega arith
predicate_fits (Predicate Pred name params clauses) = simp length-append (omega arith)
predicate_fits (Predicate Error name params clauses) = simp length-append (omega arith)
predicate_fits (Predicate ErrorPred name params clauses) = simp length-append (omega arith)
predicate_fits (Declare names) = omega arith
predicate_fits (Multi items) = omega arith
predicate_fits (Atoms names) = omega arith
predicate_fits (Scope bounds) = omega arith
predicate_fits (Assert is_default assertion) = omega arith

abbrev features_of : ClassDecl → List Feature
features_of c = c.features

features_fit : (s : Statement) → length (flat_map features_of (classes_in s)) ≤ length (statement_pieces s)
features_fit (Class is_abstract name supers None) = omega arith
features_fit (Class is_abstract name supers (Some features)) =
    let some = flat_map-some feature_pieces feature_some features in
    simp length-append (omega (arith, some))
features_fit (Enum name literals) = omega arith
features_fit (Predicate start name params clauses) = omega arith
features_fit (Declare names) = omega arith
features_fit (Multi items) = omega arith
features_fit (Atoms names) = omega arith
features_fit (Scope bounds) = omega arith
features_fit (Assert is_default assertion) = omega arith

all_features_fit : (ss : List Statement) → length (flat_map features_of (flat_map classes_in ss)) ≤ length (flat_map statement_pieces ss)
all_features_fit [] = omega arith
all_features_fit (s ∷ ss) =
    let joined = ap length (flat_map-append features_of (classes_in s) (flat_map classes_in ss)) in
    omega (
      arith,
      joined,
      features_fit s,
      all_features_fit ss,
      length-append (flat_map features_of (classes_in s)) (flat_map features_of (flat_map classes_in ss)),
      length-append (statement_pieces s) (flat_map statement_pieces ss),
    )

-- references are features
as_features : (n : ℕ) (cs : List ClassDecl) → length (references_of n cs) ≡ length (flat_map features_of cs)
as_features n [] = refl
as_features n (c ∷ cs) =
    let rest = as_features (suc n) cs in
    simp (length-append, length-map) (omega (arith, rest))

-- a text of few tokens declares few
pub few_declared : (ast : Ast) → length (spelling_of ast) < 2 ^ 32 → AreFew (declared_in ast)
few_declared ast short =
    let all : length (spelling_of ast) ≡ length (pieces_of ast) = length-map (pieces_of ast) (λ p. p.kind) in
    let ss = ast.statements in
    record {
      classes = omega (arith, all, short, flat_map-le classes_in statement_pieces class_fits ss);
      references = omega (arith, all, short, as_features 0 (flat_map classes_in ss), all_features_fit ss);
      predicates = omega (arith, all, short, flat_map-le predicates_in statement_pieces predicate_fits ss);
    }
