-- The lists of the problem are the parts of one.
use Rattle.std.proofs.Common.{◌≡◌, ◌≢◌, ◌≤◌, ◌<◌, ◌+◌, ◌-◌, ℕ, zero, suc, Bool, true, false, List, [], ◌∷◌, ◌++◌, length, map, All, AllPairs, Option, IfNone, IsSome, None, Some, IsTrue, get_or, refl, sym, ap, subst, arith}
use Rattle.std.specs.List.{range_with_len}
use Rattle.std.specs.Option.{ForSome}
use Rattle.std.proofs.lemmas.List.{length-append}
use Rattle.std.proofs.lemmas.List.Elements.{All-append, All-cons, All-nil}
use Rattle.std.proofs.lemmas.List.FromFn.{length-map-range_with_len}
use Rattle.rf_bounds.specs.declared.TheConstants.{GREATEST_NUMBER, MOST_OBJECTS}
use Rattle.rf_finite.specs.Walks.{HasNoCycle, IsWalk}
use Rattle.rf_text.specs.Written.{CanBeQuoted}
use Rattle.rf_problem.specs.Classes.{extends}
use Rattle.rf_problem.specs.Made.{AreParts}
use Rattle.rf_problem.specs.Parts.{reference_at}
use Rattle.rf_problem.specs.Valid.{AreAssertions, AreClasses, AreMirrored, ArePredicates, AreReferences, AreScopes, FitsAssertion, FitsClause, IsSmall, calls, extends_no_enum, fits_enum}
use Rattle.rf_problem.specs.declared.assertion.Assertion.{Assertion}
use Rattle.rf_problem.specs.declared.class.Class.{Class}
use Rattle.rf_problem.specs.declared.object.ObjectDecl.{ObjectDecl}
use Rattle.rf_problem.specs.declared.predicate.Predicate.{Predicate}
use Rattle.rf_problem.specs.declared.problem.Problem.{Problem}
use Rattle.rf_problem.specs.declared.reference.Reference.{Reference}
use Rattle.rf_problem.specs.declared.scope.Scope.{Scope}
use Rattle.rf_problem.specs.declared.symbol.Symbol.TheVariants.{Class as OfClass}
use Rattle.rf_values.specs.declared.truth.Truth.TheVariants.{True}
use Rattle.rf_grow.specs.Grown.{contains_part, denies_others, exactly, grown_assertions, grown_classes, grown_objects, grown_predicates, grown_references, grown_scopes, last_is_open, leads_on, loop_clause, states}
use Rattle.rf_grow.proofs.Named.{length-grown_objects, objects_fit}
use Rattle.rf_grow.proofs.Names.{loop_quotable, next_quotable, part_quotable, parts_quotable, top_quotable}
use Rattle.rf_grow.proofs.Rows.{all_items, pairs_cons, pairs_nil, where_none, where_some}

-- of one item and of two
all_one : {X : Type 0} (P : X → Type 0) (x : X) → P x → All P (x ∷ [])
all_one P x h = All-cons P x [] h (All-nil P)

all_two : {X : Type 0} (P : X → Type 0) (x y : X) → P x → P y → All P (x ∷ y ∷ [])
all_two P x y h k = All-cons P x (y ∷ []) h (all_one P y k)

pairs_two : {X : Type 0} (R : X → X → Type 0) (x y : X) → R x y → AllPairs R (x ∷ y ∷ [])
pairs_two R x y h = pairs_cons R x (y ∷ []) (all_one (R x) y h) (pairs_cons R y [] (All-nil (R y)) (pairs_nil R))

-- where no edge is there, there is no cycle
no_edges : (edge : ℕ → ℕ → Bool) (n : ℕ) → ((x y : ℕ) → edge x y ≡ false) → HasNoCycle edge n
no_edges edge n none x l walk = no_walk walk.0 walk.1
  where
    no_walk : (inner : List ℕ) → IsWalk edge (λ y. true) n x inner x → ⊥
    no_walk [] e = let f = none x x in cc
    no_walk (c ∷ cs) e = let f = none x c in let t = e.0 in cc

extends_nothing : (c d : ℕ) → extends grown_classes c d ≡ false
extends_nothing zero d = refl
extends_nothing (suc zero) d = refl
extends_nothing (suc (suc c)) d = refl

calls_nothing : (p q : ℕ) → calls grown_predicates p q ≡ false
calls_nothing zero q = refl
calls_nothing (suc p) q = refl

classes_fit : AreClasses grown_classes
classes_fit = record {
  few = omega arith;
  named = all_two (λ c. CanBeQuoted c.name) _ _ top_quotable part_quotable;
  apart = pairs_two (λ c d. c.name ≢ d.name) _ _ (λ same. absurd (let e : 84 ≡ 80 = ap (λ bs. get_or bs 0 0) same in omega arith));
  supers = all_two (λ c. All (λ s. s < 2) c.supers) _ _ (All-nil (λ s. s < 2)) (All-nil (λ s. s < 2));
  enums = all_two (λ c. IsTrue (fits_enum c)) _ _ refl refl;
  extendable = all_two (λ c. IsTrue (extends_no_enum grown_classes c)) _ _ refl refl;
  no_cycle = no_edges (extends grown_classes) 2 extends_nothing;
}

references_fit : AreReferences grown_classes grown_references
references_fit = record {
  few = omega arith;
  named = all_two (λ r. CanBeQuoted r.name) _ _ parts_quotable next_quotable;
  apart = pairs_two (λ r s. r.source ≡ s.source → r.name ≢ s.name) _ _ (λ e. absurd (omega arith));
  sources = all_two (λ r. r.source < 2) _ _ (omega arith) (omega arith);
  targets = all_two (λ r. r.target < 2) _ _ (omega arith) (omega arith);
  ranges = all_two (λ r. IsSmall r.range) _ _
      (record { lower = omega arith; upper = where_none (λ n. n ≤ GREATEST_NUMBER) })
      (record { lower = omega arith; upper = where_some (λ n. n ≤ GREATEST_NUMBER) 1 (omega arith) });
  mirrored = none;
}
  where
    none : (r : ℕ) → r < 2 → ForSome (reference_at grown_references r).opposite (AreMirrored grown_references r)
    none zero l = λ x e. absurd cc
    none (suc zero) l = λ x e. absurd cc
    none (suc (suc r)) l = λ x e. absurd (omega arith)

predicates_fit : (n : ℕ) → ArePredicates grown_classes grown_references (grown_objects n) grown_predicates
predicates_fit n = record {
  few = omega arith;
  named = all_one (λ p. CanBeQuoted p.name) _ loop_quotable;
  arities = all_one (λ p. p.arity ≤ 4) _ (omega arith);
  few_clauses = all_one (λ p. length p.clauses ≤ 64) _ (omega arith);
  clauses = all_one (λ p. All (FitsClause 2 2 (grown_objects n) grown_predicates p.arity) p.clauses) _
      (all_one (FitsClause 2 2 (grown_objects n) grown_predicates 1) loop_clause fits);
  no_cycle = no_edges (calls grown_predicates) 1 calls_nothing;
}
  where
    fits : FitsClause 2 2 (grown_objects n) grown_predicates 1 loop_clause
    fits = record {
      few_variables = omega arith;
      few_literals = omega arith;
      parameters = omega arith;
      free = refl;
      literals = refl;
    }

module _ (n : ℕ) (some : 1 ≤ n) (small : n < MOST_OBJECTS) where
  long : length (grown_objects n) ≡ n + 3
  long = length-grown_objects n

  abbrev IsObject : ℕ → Type 0
  IsObject o = o < length (grown_objects n)

  abbrev IsArgument : Option ℕ → Type 0
  IsArgument arg = ForSome arg IsObject

  object : (o : ℕ) → o ≤ n → IsArgument (Some o)
  object o l = where_some IsObject o (subst (λ m. o < m) (sym long) (omega arith))

  any : IsArgument None
  any = where_none IsObject

  abbrev Fits : Assertion → Type 0
  Fits = FitsAssertion 2 2 grown_predicates (length (grown_objects n))

  denied_fits : (r : ℕ) → r < 2 → Fits (denies_others r)
  denied_fits zero l = record { symbol = refl; arity = refl; args = all_two IsArgument None None any any }
  denied_fits (suc zero) l = record { symbol = refl; arity = refl; args = all_two IsArgument None None any any }
  denied_fits (suc (suc r)) l = absurd (omega arith)

  top_fits : Fits (states True (OfClass 0) (Some 0 ∷ []))
  top_fits = record { symbol = refl; arity = refl; args = all_one IsArgument (Some 0) (object 0 (omega arith)) }

  contained_fits : (k : ℕ) → k < n → Fits (contains_part k)
  contained_fits k l = record {
    symbol = refl;
    arity = refl;
    args = all_two IsArgument (Some 0) (Some (k + 1)) (object 0 (omega arith)) (object (k + 1) (omega arith));
  }

  leading_fits : (k : ℕ) → k < n - 1 → Fits (leads_on k)
  leading_fits k l = record {
    symbol = refl;
    arity = refl;
    args = all_two IsArgument (Some (k + 1)) (Some (k + 2)) (object (k + 1) (omega arith)) (object (k + 2) (omega arith));
  }

  open_fits : Fits (last_is_open n)
  open_fits = record { symbol = refl; arity = refl; args = all_two IsArgument (Some n) None (object n (omega arith)) any }

  abbrev contained : List Assertion
  contained = map contains_part (range_with_len 0 n)

  abbrev row : List Assertion
  row = map leads_on (range_with_len 0 (n - 1))

  each_fits : All Fits (grown_assertions n)
  each_fits =
      let parts : All Fits contained = all_items Fits contains_part 0 n (λ k low high. contained_fits k (omega arith)) in
      let leading : All Fits row = all_items Fits leads_on 0 (n - 1) (λ k low high. leading_fits k (omega arith)) in
      let rest : All Fits ((contained ++ row) ++ last_is_open n ∷ []) =
      All-append Fits (contained ++ row) (last_is_open n ∷ []) (All-append Fits contained row parts leading)
      (all_one Fits (last_is_open n) open_fits) in
      All-append Fits (denies_others 0 ∷ denies_others 1 ∷ states True (OfClass 0) (Some 0 ∷ []) ∷ []) ((contained ++ row) ++ last_is_open n ∷ [])
      (All-cons Fits (denies_others 0) (denies_others 1 ∷ states True (OfClass 0) (Some 0 ∷ []) ∷ []) (denied_fits 0 (omega arith))
      (all_two Fits (denies_others 1) (states True (OfClass 0) (Some 0 ∷ [])) (denied_fits 1 (omega arith)) top_fits))
      rest

  assertions_fit : AreAssertions grown_classes grown_references grown_predicates (grown_objects n) (grown_assertions n)
  assertions_fit =
      let of_parts : length contained ≡ n = length-map-range_with_len contains_part 0 n in
      let of_row : length row ≡ n - 1 = length-map-range_with_len leads_on 0 (n - 1) in
      let inner = length-append contained row in
      let outer = length-append (contained ++ row) (last_is_open n ∷ []) in
      record { few = omega arith; each = each_fits }

  abbrev the_scope : Scope
  the_scope = record { class = None; only_new = false; range = exactly (n + 1) }

  scopes_fit : AreScopes grown_classes (grown_scopes n)
  scopes_fit = record {
    few = omega arith;
    classes_there = all_one (λ s. ForSome s.class (λ c. c < 2)) the_scope (where_none (λ c. c < 2));
    ranges = all_one (λ s. IsSmall s.range) the_scope record { lower = omega arith; upper = where_some (λ m. m ≤ GREATEST_NUMBER) (n + 1) (omega arith) };
  }

  pub grown_fits : AreParts grown_classes grown_references grown_predicates (grown_objects n) (grown_assertions n) (grown_scopes n)
  grown_fits = record {
    classes_fit = classes_fit;
    references_fit = references_fit;
    objects_fit = objects_fit n small;
    predicates_fit = predicates_fit n;
    assertions_fit = assertions_fit;
    scopes_fit = scopes_fit;
  }

-- so what is made of these lists is a problem
pub is_made :
    (n : ℕ) → 1 ≤ n → n < MOST_OBJECTS → (classes : List Class) (references : List Reference) (predicates : List Predicate)
    (objects : List ObjectDecl) (assertions : List Assertion) (scopes : List Scope) → classes ≡ grown_classes → references ≡ grown_references →
    predicates ≡ grown_predicates → objects ≡ grown_objects n → assertions ≡ grown_assertions n → scopes ≡ grown_scopes n →
    (made : Option Problem) → IfNone made (AreParts classes references predicates objects assertions scopes → ⊥) → IsSome made
is_made n some small classes references predicates objects assertions scopes cs rs ps os xs ss None refused =
    absurd (refused (subst (λ (T : Type 0). T) (sym (λ i. AreParts (cs i) (rs i) (ps i) (os i) (xs i) (ss i))) (grown_fits n some small)))
is_made n some small classes references predicates objects assertions scopes cs rs ps os xs ss (Some p) refused = refl
